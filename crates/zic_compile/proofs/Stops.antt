-- How a build ends early.
use Rattle.std.proofs.Common.{ℕ, List, Result, Ok, Err, inl, inr}
use Rattle.std.specs.Prelude.{IfErr, IfSome, IfNone}
use Rattle.zic_base.specs.Fault.{fault_of}
use Rattle.zic_base.specs.declared.fault.Stop.{Stop}
use Rattle.zic_base.specs.declared.fault.Stop.TheVariants as stop
use Rattle.zic_base.specs.declared.stops.RunStop.{RunStop}
use Rattle.zic_base.specs.declared.stops.RunStop.TheVariants.{Source, Row, ReadFailed, WriteFailed, ColumnTooLong, Memory, NoThread, LogFailed}
use Rattle.zic_base.specs.RunStop.{run_stop}
use Rattle.zic_source.specs.FirstFault.{IsFirstFault, MayRunOutOfMemory}
use Rattle.zic_source.specs.Grammar.{IsSource}
use Rattle.zic_source.specs.Source.{SourceLines}
use Rattle.zic_compile.specs.Build.{IsStopOfBuild}
use Rattle.zic_compile.specs.code.Stop.{IsStopOfImages}

-- the texts can't be read
pub reading_stop : (texts : List (List ℕ)) (e : Stop) → IfSome (fault_of e) (IsFirstFault texts) → IfNone (fault_of e) (MayRunOutOfMemory texts) → IsStopOfBuild texts (run_stop e)
reading_stop texts (stop.Fault fault) first wants = inl first
reading_stop texts stop.Memory first wants = wants

-- the texts are a source, and one of its zones has no image
module _ (texts : List (List ℕ)) (source : SourceLines) (is : IsSource texts source) where
  images_stop : (e : RunStop) → IsStopOfImages source e → IsStopOfBuild texts e
  images_stop (Source fault) stops = inr (source, is, stops)
  images_stop (Row row kind) stops = stops
  images_stop ReadFailed stops = stops
  images_stop WriteFailed stops = stops
  images_stop ColumnTooLong stops = stops
  images_stop Memory stops = inr (source, is.read)
  images_stop NoThread stops = stops
  images_stop LogFailed stops = stops

  pub images_stops : {X : Type 0} (result : Result X RunStop) → IfErr result (IsStopOfImages source) → IfErr result (IsStopOfBuild texts)
  images_stops (Ok x) stops = tt
  images_stops (Err e) stops = images_stop e stops
