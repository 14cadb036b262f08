-- The end of a run at a record that has more bytes than it may have.
use Rattle.std.proofs.Common.{◌≡◌, ◌+◌, ℕ, List, [], ◌∷◌, Option, Some, inl, inr, refl, sym, ap, subst, arith}
use Rattle.zic_columns.specs.Own.{CsvRecord}
use Rattle.zic_counted.specs.Counts.{Counts}
use Rattle.zic_layouts.specs.Noted.{RowNote}
use Rattle.zic_base.specs.declared.row_fault.RowKind.{RowKind}
use Rattle.zic_base.specs.declared.stops.RunStop.{RunStop}
use Rattle.zic_base.specs.declared.stops.RunStop.TheVariants as stop
use Rattle.zic_piece_rows.specs.LayoutRows.{ends_by}
use Rattle.zic_convert.specs.By.{By}
use Rattle.zic_convert.specs.code.Halt.{IsCauseWith, IsOwnCause}
use Rattle.zic_convert.specs.declared.halt.Halt.TheVariants as halt
use Rattle.zic_piece_rows.specs.PieceRows.{AreRowsOf, RowsOf, empty_rows}
use Rattle.zic_convert.specs.code.Written.{EndsInRecords, IsStopAt, numbered, writing}
use Rattle.zic_piece_rows.proofs.Coming.{no_rows, one_fault}
use Rattle.zic_convert.proofs.Logs.{notes_none}
use Rattle.zic_convert.proofs.TooMany.{none_few}

-- a writer that failed, or a row that ends the run
pub stop_cause : {W : Type 0} (contents : W → Option (List ℕ)) (old new : Counts W) (row : ℕ) (kind : RowKind) (why : RunStop) → IsStopAt contents old new (record { row = row; kind = kind }) why → IsOwnCause old new why
stop_cause contents old new row kind (stop.Row at fault) is = is.2.1
stop_cause contents old new row kind stop.WriteFailed is = is.failed
stop_cause contents old new row kind (stop.Source fault) is = absurd is
stop_cause contents old new row kind stop.ReadFailed is = absurd is
stop_cause contents old new row kind stop.ColumnTooLong is = absurd is
stop_cause contents old new row kind stop.Memory is = absurd is
stop_cause contents old new row kind stop.NoThread is = absurd is
stop_cause contents old new row kind stop.LogFailed is = absurd is

module _ {W : Type 0} (contents : W → Option (List ℕ)) (old new : Counts W) (by : By) (number : ℕ) (given : CsvRecord) (kind : RowKind)
    (ends : ends_by by.layout by.releases.zones by.most_rows number given ≡ Some kind) (log : Option (List RowNote)) where
  rows : RowsOf
  rows = record { text = []; count = 0; fault = Some kind; faults = [] }

  no_row : AreRowsOf by.layout by.releases by.most_rows number (given ∷ []) rows
  unfolding rows
  no_row =
      let at : number ≡ number + 0 = omega arith in
      one_fault by.layout by.releases by.most_rows number [] [] 0 [] (no_rows by.layout by.releases by.most_rows number) given [] kind (subst (λ (n : ℕ). ends_by by.layout by.releases.zones by.most_rows n given ≡ Some kind) at ends)

  pub long_stops : (why : RunStop) → IsStopAt contents old new (record { row = number; kind = kind }) why → EndsInRecords by (writing contents old new log log) (numbered number (given ∷ [])) why
  unfolding rows
  long_stops (stop.Row at fault) is = inr (rows, no_row, inl ((ap Some (sym is.1), omega (arith, is.0), is.2, notes_none log), none_few by.max_faults))
  long_stops stop.WriteFailed is = inr (
    rows,
    no_row,
    record {
      done = [];
      more = given ∷ [];
      parts = refl;
      front = empty_rows;
      are = no_rows by.layout by.releases by.most_rows number;
      reached = [];
      beyond = given ∷ [];
      within = refl;
      upto = empty_rows;
      are_upto = no_rows by.layout by.releases by.most_rows number;
      fails = record { part = is.part; starts = is.starts; least = refl; wrote = is.wrote; failed = is.failed };
      noted = notes_none log;
      few = none_few by.max_faults;
      may = none_few by.max_faults;
    },
  )
  long_stops (stop.Source fault) is = absurd is
  long_stops stop.ReadFailed is = absurd is
  long_stops stop.ColumnTooLong is = absurd is
  long_stops stop.Memory is = absurd is
  long_stops stop.NoThread is = absurd is
  long_stops stop.LogFailed is = absurd is

-- the cause of an end in some records, where the log has failed if the run ended for it
module _ {W : Type 0} (contents : W → Option (List ℕ)) (old new : Counts W) (log log' : Option (List RowNote)) (by : By) (first : ℕ)
    (row_records : List CsvRecord) (LogFails : Type 0) where
  pub records_cause : (why : RunStop) → (why ≡ stop.LogFailed → LogFails) → EndsInRecords by (writing contents old new log log') (numbered first row_records) why → IsCauseWith LogFails old new (halt.Stop why)
  records_cause stop.LogFailed failed ends = inr (refl, failed refl)
  records_cause stop.Memory failed ends = inl tt
  records_cause (stop.Row row kind) failed (inl memory) = absurd (cc memory.0)
  records_cause (stop.Row row kind) failed (inr (rows, are, inl at_row)) = inl at_row.0.2.1
  records_cause (stop.Row row kind) failed (inr (rows, are, inr at_fault)) = inl at_fault.wrote.1
  records_cause stop.WriteFailed failed (inl memory) = absurd (cc memory.0)
  records_cause stop.WriteFailed failed (inr (rows, are, fails)) = inl fails.fails.failed
  records_cause (stop.Source fault) failed (inl memory) = absurd (cc memory.0)
  records_cause (stop.Source fault) failed (inr (rows, are, none)) = absurd none
  records_cause stop.ReadFailed failed (inl memory) = absurd (cc memory.0)
  records_cause stop.ReadFailed failed (inr (rows, are, none)) = absurd none
  records_cause stop.ColumnTooLong failed (inl memory) = absurd (cc memory.0)
  records_cause stop.ColumnTooLong failed (inr (rows, are, none)) = absurd none
  records_cause stop.NoThread failed (inl memory) = absurd (cc memory.0)
  records_cause stop.NoThread failed (inr (rows, are, none)) = absurd none
