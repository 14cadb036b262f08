-- The output of a conversion, and why it ends early.
use Rattle.std.specs.Prelude.{◌≡◌, ◌⊎◌, ℕ, ◌+◌, List, [], ◌++◌, length, Option, Some, None}
use Rattle.std.specs.List.{concat}
use Rattle.std.specs.Io.{StartsWith}
use Rattle.std.specs.Io.KnownBytes.{Appends}
use Rattle.zic_counted.specs.Counts.{Counts, HasFailedSince, HasTakenAbove}
use Rattle.zic_files.specs.File.{File}
use Rattle.zic_base.specs.declared.row_fault.RowKind.{RowKind}
use Rattle.zic_base.specs.declared.stops.RunStop.{RunStop}
use Rattle.zic_base.specs.declared.stops.RunStop.TheVariants as stop
use Rattle.zic_convert.specs.Column.{ConvertsTo}

-- the outcome of a conversion: the texts of rows, and a fault, or none
abbrev pub Outcome : Type 1
Outcome = List (List ℕ) → Option RowKind → Type 0

-- No row ends the conversion, there are n, and what the writer holds, where that is known, grew by a head and by the text of all.
pub record WritesAllOf (head : List ℕ) (Converts : Outcome) (n : ℕ) (old new : Option (List ℕ)) : Type 0 where
  pub texts : List (List ℕ)
  pub converts : Converts texts None
  pub count : n ≡ length texts
  pub wrote : Appends old new (head ++ concat texts)

-- The row of this number, with this fault, ends the conversion, and what the writer holds grew by a head and by the text of all rows
-- before it.
pub record WritesUpToOf (head : List ℕ) (Converts : Outcome) (row : ℕ) (kind : RowKind) (old new : Option (List ℕ)) : Type 0 where
  pub texts : List (List ℕ)
  pub converts : Converts texts (Some kind)
  pub number : row ≡ length texts + 1
  pub wrote : Appends old new (head ++ concat texts)

-- The writer's bytes grew by a part of a head and of the text of all rows before the one that ends the conversion, from its start on.
pub record WritesPartOf (head : List ℕ) (Converts : Outcome) (old new : Option (List ℕ)) : Type 0 where
  pub texts : List (List ℕ)
  pub fault : Option RowKind
  pub converts : Converts texts fault
  pub part : List ℕ
  pub starts : StartsWith (head ++ concat texts) part
  pub wrote : Appends old new part

-- the output of a conversion that ends early; it never ends for a fault of a source
abbrev pub WritesAtOf : List ℕ → Outcome → RunStop → Option (List ℕ) → Option (List ℕ) → Type 0
WritesAtOf head Converts (stop.Row row kind) old new = WritesUpToOf head Converts row kind old new
WritesAtOf head Converts (stop.Source fault) old new = ⊥
WritesAtOf head Converts stop.ReadFailed old new = WritesPartOf head Converts old new
WritesAtOf head Converts stop.WriteFailed old new = WritesPartOf head Converts old new
WritesAtOf head Converts stop.ColumnTooLong old new = WritesPartOf head Converts old new
WritesAtOf head Converts stop.Memory old new = WritesPartOf head Converts old new
WritesAtOf head Converts stop.NoThread old new = WritesPartOf head Converts old new
WritesAtOf head Converts stop.LogFailed old new = WritesPartOf head Converts old new

-- what is written of a column that is converted whole
abbrev pub WritesAll : List File → ℕ → List ℕ → ℕ → Option (List ℕ) → Option (List ℕ) → Type 0
WritesAll files most column = WritesAllOf [] (ConvertsTo files most column)

-- what is written of a column whose conversion ends early
abbrev pub WritesAt : List File → ℕ → List ℕ → RunStop → Option (List ℕ) → Option (List ℕ) → Type 0
WritesAt files most column = WritesAtOf [] (ConvertsTo files most column)

-- A conversion ends for the reader only where a failure of it was counted, for the writer likewise, and for too long a column only where
-- more bytes than allowed were taken. It ends at a row only where no failure of the writer was counted. It never ends for a fault of a
-- source, for lack of a thread, or for a log where there is none.
abbrev pub IsCauseOf : {R W : Type 0} → ℕ → Counts R → Counts R → Counts W → Counts W → RunStop → Type 0
IsCauseOf most reader reader' writer writer' stop.ReadFailed = HasFailedSince reader' reader.failures
IsCauseOf most reader reader' writer writer' stop.WriteFailed = HasFailedSince writer' writer.failures
IsCauseOf most reader reader' writer writer' stop.ColumnTooLong = HasTakenAbove most reader reader'
IsCauseOf most reader reader' writer writer' (stop.Row row kind) = writer'.failures ≡ writer.failures
IsCauseOf most reader reader' writer writer' stop.Memory = Unit {0}
IsCauseOf most reader reader' writer writer' (stop.Source fault) = ⊥
IsCauseOf most reader reader' writer writer' stop.NoThread = ⊥
IsCauseOf most reader reader' writer writer' stop.LogFailed = ⊥

-- A conversion with a log ends for one of these causes too, and for the log only where that failed.
abbrev pub IsCauseWithLog : {R W : Type 0} → Type 0 → ℕ → Counts R → Counts R → Counts W → Counts W → RunStop → Type 0
IsCauseWithLog LogFails most reader reader' writer writer' why = IsCauseOf most reader reader' writer writer' why ⊎ ((why ≡ stop.LogFailed) × LogFails)
