-- The outcome of building from texts: their files, or the first fault. Nothing here speaks of
-- workers or of pieces.
use Rattle.std.specs.Prelude.{ℕ, List, ◌⊎◌}
use Rattle.zic_base.specs.declared.fault.Fault.{Fault}
use Rattle.zic_source.specs.FirstFault.{IsFirstFault, MayRunOutOfMemory}
use Rattle.zic_source.specs.Grammar.{IsSource}
use Rattle.zic_source.specs.Source.{SourceLines}
use Rattle.zic_base.specs.declared.stops.RunStop.{RunStop}
use Rattle.zic_base.specs.declared.stops.RunStop.TheVariants as stops
use Rattle.zic_files.specs.File.{File}
use Rattle.zic_compile.specs.Files.{AreFilesOf, IsFaultOfFiles}

-- the texts are a source, and these are its files
pub record AreFilesOfTexts (texts : List (List ℕ)) (files : List File) : Type 0 where
  pub source : SourceLines
  pub is_source : IsSource texts source
  pub are_files : AreFilesOf source files

-- the first fault of the texts, or, where they are a source, that of its first zone that has one
abbrev pub IsFaultOfTexts : List (List ℕ) → Fault → Type 0
IsFaultOfTexts texts fault =
    IsFirstFault texts fault
    ⊎ ((source : SourceLines) × IsSource texts source × IsFaultOfFiles source fault)

-- Why there are no files: a fault, or memory ran out, which, once the texts are read, may come at
-- any time.
abbrev pub IsStopOfBuild : List (List ℕ) → RunStop → Type 0
IsStopOfBuild texts (stops.Source fault) = IsFaultOfTexts texts fault
IsStopOfBuild texts stops.Memory = MayRunOutOfMemory texts
IsStopOfBuild texts _ = ⊥
