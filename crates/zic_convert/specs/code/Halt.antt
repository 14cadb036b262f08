-- How a conversion ends early.
use Rattle.std.specs.Prelude.{◌≡◌, ℕ, ◌+◌, ◌<◌, ◌≤◌, ◌⊎◌, IfErr, IfOk, Result, Ok, Err}
use Rattle.zic_counted.specs.Counts.{Counts, HasFailedSince, greatest}
use Rattle.zic_base.specs.declared.stops.RunStop.{RunStop}
use Rattle.zic_base.specs.declared.stops.RunStop.TheVariants as stop
use Rattle.zic_convert.specs.declared.halt.Halt.{Halt}
use Rattle.zic_convert.specs.declared.halt.Halt.TheVariants as halt

-- the stop of a halt: where the column can't be read on, the output is as where its reader failed
abbrev pub stop_of : Halt → RunStop
stop_of halt.Unread = stop.ReadFailed
stop_of (halt.Stop stop) = stop

-- a row with a fault where the writer did not fail, a writer that failed, or memory that ran out
abbrev pub IsOwnCause : {W : Type 0} → Counts W → Counts W → RunStop → Type 0
IsOwnCause old new (stop.Row row kind) = new.failures ≡ old.failures
IsOwnCause old new stop.WriteFailed = HasFailedSince new old.failures
IsOwnCause old new stop.Memory = Unit {0}
IsOwnCause old new _ = ⊥

-- where the column can't be read on, its reader has the cause
abbrev pub IsCauseOfHalt : {W : Type 0} → Counts W → Counts W → Halt → Type 0
IsCauseOfHalt old new halt.Unread = Unit {0}
IsCauseOfHalt old new (halt.Stop stop) = IsOwnCause old new stop

-- or the log failed
abbrev pub IsCauseWith : {W : Type 0} → Type 0 → Counts W → Counts W → Halt → Type 0
IsCauseWith LogFails old new why = IsCauseOfHalt old new why ⊎ ((why ≡ halt.Stop stop.LogFailed) × LogFails)

-- why reading a column ended, by what its reader counted since it had these counts of failures and bytes
abbrev pub IsReadingStop : {R : Type 0} → Counts R → ℕ → ℕ → ℕ → RunStop → Type 0
IsReadingStop reader failures taken most stop.ReadFailed = HasFailedSince reader failures
IsReadingStop reader failures taken most stop.ColumnTooLong = (taken + most < reader.taken) ⊎ (reader.taken ≡ greatest)
IsReadingStop reader failures taken most stop.Memory = Unit {0}
IsReadingStop reader failures taken most _ = ⊥

-- why the conversion of a column with this outcome ends early: where all was converted, or the column can't be read on, its reader says why
abbrev pub IsStopOf : {R : Type 0} → Counts R → ℕ → ℕ → ℕ → Result ℕ Halt → RunStop → Type 0
IsStopOf reader failures taken most (Ok n) why = IsReadingStop reader failures taken most why
IsStopOf reader failures taken most (Err halt.Unread) why = IsReadingStop reader failures taken most why
IsStopOf reader failures taken most (Err (halt.Stop stop)) why = why ≡ stop

-- how a conversion ends, by the outcome of its column and by what the reader counted since it had these counts
pub record IsEnd {R : Type 0} (reader : Counts R) (failures taken most : ℕ) (outcome : Result ℕ Halt) (result : Result ℕ RunStop) : Type 0 where
  pub rows : IfOk result (λ n. outcome ≡ Ok n)
  pub within : IfOk result (λ _. reader.taken ≤ taken + most)
  pub unfailed : IfOk result (λ _. HasFailedSince reader failures → ⊥)
  pub stops : IfErr result (IsStopOf reader failures taken most outcome)
