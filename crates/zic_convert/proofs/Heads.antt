-- The header before rows, and the rows of a column after it.
use Rattle.std.proofs.Common.{◌≡◌, ◌∙◌, ◌⊎◌, ℕ, List, [], ◌∷◌, Option, Some, None, drop, take, inl, inr, refl, sym, ap, ap₂, subst}
use Rattle.std.proofs.lemmas.List.{append-nil}
use Rattle.std.specs.Io.{StartsWith}
use Rattle.std.specs.Io.KnownBytes.{Appends}
use Rattle.std.specs.Prelude.{IfErr, IfOk, IfSome, Result, Ok, Err, option_map}
use Rattle.csv.specs.Reading.{strip_bom}
use Rattle.csv.proofs.WriteFacts.{appends-none}
use Rattle.zic_columns.specs.Own.{CsvRecord}
use Rattle.zic_columns.specs.Round.{BeginsTooLong}
use Rattle.zic_counted.specs.Counts.{Counts}
use Rattle.zic_counted.specs.Written.{FailsWithin}
use Rattle.zic_tzif.specs.Laws.{FilesAnswerOnce}
use Rattle.zic_zones.specs.declared.zones.Releases.{Releases}
use Rattle.zic_convert.specs.By.{By, by_of}
use Rattle.zic_convert.specs.Laws.{AreSoundReleases}
use Rattle.zic_layouts.specs.Layout.{records_before}
use Rattle.zic_layouts.specs.declared.layout.Layout.{Layout}
use Rattle.zic_layouts.specs.declared.layout.Records.{Records}
use Rattle.zic_layouts.specs.Noted.{RowNote}
use Rattle.zic_base.specs.declared.row_fault.RowKind.{RowKind}
use Rattle.zic_base.specs.declared.row_fault.RowKind.TheVariants as kinds
use Rattle.zic_files.specs.File.{File}
use Rattle.zic_base.specs.declared.stops.RunStop.{RunStop}
use Rattle.zic_base.specs.declared.stops.RunStop.TheVariants as stop
use Rattle.zic_piece_rows.specs.LayoutRows.{ended, if_rejected}
use Rattle.zic_convert.specs.Column.{AreRowRecords, header_of, header_read, names_added, own_line, read_by, records_read, rejects_header}
use Rattle.zic_convert.specs.Run.{EndsAfterLines, EndsAtHeader, EndsIn, LogBegan, PassesHeader, WritesRows}
use Rattle.zic_convert.specs.code.Halt.{IsCauseOfHalt, stop_of}
use Rattle.zic_convert.specs.Header.{IsHeaderFault, fault_read, header_fault}
use Rattle.zic_convert.specs.code.Progress.{BeginsRows, ConvertsColumn, ConvertsRest, EndsInColumn, EndsInRest, HaltsAtBegin, HaltsAtHead, HaltsAtHeader, IsAtHeader, IsAtLongHeader, output, records_left}
use Rattle.zic_convert.specs.code.Written.{EndsAtHead, Wrote}
use Rattle.zic_convert.specs.declared.halt.Halt.{Halt}
use Rattle.zic_convert.specs.declared.halt.Halt.TheVariants as halt
use Rattle.zic_convert.proofs.Below.{ends_below, rows_below}
use Rattle.zic_convert.proofs.Bytes.{fails_later, starts_later, wrote_both}
use Rattle.zic_convert.proofs.Logs.{notes_none}
use Rattle.zic_convert.proofs.Options.{for_some, if_some}
use Rattle.zic_convert.proofs.Sounds.{both_known}
use Rattle.zic_convert.proofs.TooMany.{none_few}
use Rattle.zic_convert.proofs.Totals.{all_come}

-- a header that has too many bytes has that fault
long_fault : (layout : Layout) (files : List File) (given : List CsvRecord) → BeginsTooLong layout.max_record given → header_fault layout files (take 1 given) ≡ Some kinds.RowTooLong
long_fault layout files [] none = absurd none
long_fault layout files (first ∷ others) is = rw is refl

at_long : (layout : Layout) (releases : Releases) (most : ℕ) (known : Option (List ℕ)) (why : RunStop) → IsAtLongHeader layout known why → IsAtHeader (by_of layout releases most None) known why
at_long layout releases most known why at = record {
  kind = kinds.RowTooLong;
  is = at.is;
  fault = if_some known _ (λ bytes e.
      ap (λ (n : ℕ). header_fault layout releases.zones (take n (records_read layout bytes))) at.header ∙ long_fault layout releases.zones (records_read layout bytes) (for_some known _ bytes at.long e));
}

module _ {W : Type 0} (contents : W → Option (List ℕ)) where
  -- a header was written, and then passed on
  pub head_passed : (a b c : Counts W) (head : List ℕ) (result : Result (Unit {0}) RunStop) → Wrote contents a b head → IfOk result (λ _. Wrote contents b c []) → IfOk result (λ _. Wrote contents a c head)
  head_passed a b c head (Ok u) wrote flushed = subst (λ (l : List ℕ). Wrote contents a c l) (append-nil head) (wrote_both contents a b c head [] wrote flushed)
  head_passed a b c head (Err why) wrote flushed = tt

  -- or it was not
  pub head_unchanged : (a b c : Counts W) (head : List ℕ) (result : Result (Unit {0}) RunStop) → Wrote contents a b head → IfErr result (λ why. (why ≡ stop.WriteFailed) × FailsWithin contents b c [])
      → IfErr result (EndsAtHead contents a c head)
  head_unchanged a b c head (Ok u) wrote failed = tt
  head_unchanged a b c head (Err why) wrote failed =
      rw failed.0 (subst (λ (l : List ℕ). FailsWithin contents a c l) (append-nil head) (fails_later contents a b c head [] wrote failed.1))

  module _ (old new : Counts W) (layout : Layout) (releases : Releases) (most : ℕ) (known : Option (List ℕ)) where
    -- a header was not written whole
    pub halts_before : (own : List ℕ) → IfSome known (λ bytes. own ≡ header_read layout bytes) → IfSome known (λ bytes. fault_read layout releases.zones bytes ≡ None) → (why : RunStop)
        → EndsAtHead contents old new (ended layout.line_end (header_of layout.start (names_added layout releases.old) own)) why → HaltsAtHead contents old new (by_of layout releases most None) known (halt.Stop why)
    halts_before own is none stop.WriteFailed fails = (
      fails.failed,
      if_some known _ (λ column e. (
        subst (λ (l : List ℕ). FailsWithin contents old new (ended layout.line_end (header_of layout.start (names_added layout releases.old) l))) (for_some known _ column is e) fails,
        for_some known _ column none e,
      )),
    )
    halts_before own is none stop.Memory same = same
    halts_before own is none (stop.Row row kind) ends = absurd ends
    halts_before own is none (stop.Source fault) ends = absurd ends
    halts_before own is none stop.ReadFailed ends = absurd ends
    halts_before own is none stop.ColumnTooLong ends = absurd ends
    halts_before own is none stop.NoThread ends = absurd ends
    halts_before own is none stop.LogFailed ends = absurd ends

    -- the column was not begun, and nothing was written
    pub halts_begun : (why : Halt) → HaltsAtBegin layout known why → new ≡ old → HaltsAtHead contents old new (by_of layout releases most None) known why
    halts_begun halt.Unread begun same = same
    halts_begun (halt.Stop (stop.Row row kind)) begun same = (same, at_long layout releases most known (stop.Row row kind) begun)
    halts_begun (halt.Stop (stop.Source fault)) begun same = absurd begun
    halts_begun (halt.Stop stop.ReadFailed) begun same = absurd begun
    halts_begun (halt.Stop stop.WriteFailed) begun same = absurd begun
    halts_begun (halt.Stop stop.ColumnTooLong) begun same = absurd begun
    halts_begun (halt.Stop stop.Memory) begun same = absurd begun
    halts_begun (halt.Stop stop.NoThread) begun same = absurd begun
    halts_begun (halt.Stop stop.LogFailed) begun same = absurd begun

    -- the cause
    pub cause_at_head : (why : Halt) → HaltsAtHead contents old new (by_of layout releases most None) known why → IsCauseOfHalt old new why
    cause_at_head halt.Unread same = tt
    cause_at_head (halt.Stop stop.Memory) same = tt
    cause_at_head (halt.Stop stop.WriteFailed) failed = failed.0
    cause_at_head (halt.Stop (stop.Row row kind)) ends = ap (λ (w : Counts W). w.failures) ends.0
    cause_at_head (halt.Stop (stop.Source fault)) ends = absurd ends
    cause_at_head (halt.Stop stop.ReadFailed) ends = absurd ends
    cause_at_head (halt.Stop stop.ColumnTooLong) ends = absurd ends
    cause_at_head (halt.Stop stop.NoThread) ends = absurd ends
    cause_at_head (halt.Stop stop.LogFailed) ends = absurd ends

-- a column was not begun, whose header could not be passed over
pub header_halts : (layout : Layout) (known left : Option (List ℕ)) (mode : Records) (d : ℕ) → mode ≡ layout.records → d ≡ layout.delimiter → IfSome known (λ bytes. left ≡ Some (strip_bom bytes))
    → records_before layout.header ≡ 1 → (why : Halt) → HaltsAtHeader layout.max_record mode d left why → HaltsAtBegin layout known why
header_halts layout known left mode d by delimiter bytes header halt.Unread is = tt
header_halts layout known left mode d by delimiter bytes header (halt.Stop (stop.Row row kind)) is = record {
  is = ap₂ (λ (n : ℕ) (k : RowKind). stop.Row n k) is.0 is.1;
  header = header;
  long = if_some known _ (λ column e.
      rw (by, delimiter) at (for_some left _ (strip_bom column) is.2 (for_some known _ column bytes e)));
}
header_halts layout known left mode d by delimiter bytes header (halt.Stop (stop.Source fault)) is = absurd is
header_halts layout known left mode d by delimiter bytes header (halt.Stop stop.ReadFailed) is = absurd is
header_halts layout known left mode d by delimiter bytes header (halt.Stop stop.WriteFailed) is = absurd is
header_halts layout known left mode d by delimiter bytes header (halt.Stop stop.ColumnTooLong) is = absurd is
header_halts layout known left mode d by delimiter bytes header (halt.Stop stop.Memory) is = absurd is
header_halts layout known left mode d by delimiter bytes header (halt.Stop stop.NoThread) is = absurd is
header_halts layout known left mode d by delimiter bytes header (halt.Stop stop.LogFailed) is = absurd is

-- not even a header was written whole
no_line : FilesAnswerOnce → (by : By) → AreSoundReleases by.releases → (head : List ℕ) (row_records : List CsvRecord) (why : RunStop) (old new : Option (List ℕ)) (log : Option (List RowNote))
    (part : List ℕ) → StartsWith head part → Appends old new part → ((part ≡ []) ⊎ (why ≡ stop.WriteFailed)) → EndsAfterLines by head row_records why (output old new log log)
no_line once by sound head row_records why old new log part starts wrote exact =
    let (texts, fault, come) = all_come by.layout by.releases by.most_rows (both_known by.releases sound once) 1 row_records in
    record {
      texts = texts;
      fault = fault;
      come = come;
      lines = 0;
      upto = 1;
      part = part;
      starts = starts_later [] head part [] starts;
      least = refl;
      exact = exact;
      wrote = wrote;
      noted = notes_none log;
      few = none_few by.max_faults;
      may = none_few by.max_faults;
    }

-- a column was converted, of which these bytes are read
module _ (layout : Layout) (most : ℕ) (limit : Option ℕ) (known inside : Option (List ℕ)) (is : inside ≡ option_map (read_by layout) known) where
  within : (column : List ℕ) → known ≡ Some column → inside ≡ Some (read_by layout column)
  within column e = is ∙ ap (option_map (read_by layout)) e

  abbrev rows_read : List ℕ → List CsvRecord
  rows_read column = drop (records_before layout.header) (records_read layout (read_by layout column))

  -- the rows of a column did not begin
  module _ {W : Type 0} (contents : W → Option (List ℕ)) (once : FilesAnswerOnce) (old new : Counts W) (log : Option (List RowNote)) (releases : Releases) (sound : AreSoundReleases releases) where
    none_written : (why : RunStop) → ((row : ℕ) (kind : RowKind) → why ≡ stop.Row row kind → ⊥)
        → IfSome known (λ column. EndsAtHeader (by_of layout releases most limit) column why [] (output (contents old.inner) (contents old.inner) log log)
        ⊎ (PassesHeader (by_of layout releases most limit) column why [] (output (contents old.inner) (contents old.inner) log log) × (row_records : List CsvRecord) × AreRowRecords layout column row_records
        × EndsAfterLines (by_of layout releases most limit) (own_line (by_of layout releases most limit) column) row_records why (output (contents old.inner) (contents old.inner) log log)))
    none_written why at_no_row = if_some known _ (λ column e. inr (
      inr (record { at_no_row = at_no_row; wrote = appends-none (contents old.inner); noted = notes_none log }),
      rows_read column,
      refl,
      no_line once (by_of layout releases most limit) sound (own_line (by_of layout releases most limit) column) (rows_read column) why (contents old.inner) (contents old.inner) log [] refl (appends-none (contents old.inner)) (inl refl),
    ))

    -- the header has a fault
    header_faulty : (why : RunStop) → IsAtHeader (by_of layout releases most None) inside why → EndsInColumn (by_of layout releases most limit) known why (output (contents old.inner) (contents old.inner) log log)
    header_faulty why at = if_some known _ (λ column e.
        inl (record {
          kind = at.kind;
          is = at.is;
          fault = sym (for_some inside _ (read_by layout column) at.fault (within column e));
          wrote = appends-none (contents old.inner);
          noted = notes_none log;
        }))

    pub ends_at_head : (why : Halt) → HaltsAtHead contents old new (by_of layout releases most None) inside why → EndsInColumn (by_of layout releases most limit) known (stop_of why) (output (contents old.inner) (contents new.inner) log log)
    ends_at_head halt.Unread same = rw same (none_written stop.ReadFailed (λ row kind e. cc e))
    ends_at_head (halt.Stop stop.Memory) same = rw same (none_written stop.Memory (λ row kind e. cc e))
    ends_at_head (halt.Stop stop.WriteFailed) failed = if_some known _ (λ column e.
        let (fails, none) = for_some inside _ (read_by layout column) failed.1 (within column e) in
        inr (
          inl (sym none),
          rows_read column,
          refl,
          no_line once (by_of layout releases most limit) sound (own_line (by_of layout releases most limit) column) (rows_read column) stop.WriteFailed (contents old.inner) (contents new.inner) log fails.part fails.starts fails.wrote (inr refl),
        ))
    ends_at_head (halt.Stop (stop.Row row kind)) ends = rw ends.0 (header_faulty (stop.Row row kind) ends.1)
    ends_at_head (halt.Stop (stop.Source fault)) ends = absurd ends
    ends_at_head (halt.Stop stop.ReadFailed) ends = absurd ends
    ends_at_head (halt.Stop stop.ColumnTooLong) ends = absurd ends
    ends_at_head (halt.Stop stop.NoThread) ends = absurd ends
    ends_at_head (halt.Stop stop.LogFailed) ends = absurd ends

  -- the log began with the own bytes of its header
  pub began_as : (began : Option (List ℕ)) → LogBegan (λ bytes. if_rejected layout.at_fault (header_read layout bytes)) inside began → LogBegan (rejects_header layout) known began
  began_as began is = if_some known _ (λ column e. for_some inside _ (read_by layout column) is (within column e))

  -- the rest of a column was converted, once its header was written
  module _ (releases : Releases) (left : Option (List ℕ)) (old mid new : Option (List ℕ)) (log last : Option (List RowNote))
      (begins : IfSome inside (λ bytes. BeginsRows layout bytes left)) (head : IfSome inside (λ bytes. Appends old mid (ended layout.line_end (header_of layout.start (names_added layout releases.old) (header_read layout bytes))))) where
    begun_as : (P : List CsvRecord → Type 0) (Q : List ℕ → List CsvRecord → Type 0)
        → ((column : List ℕ) (row_records : List CsvRecord) → Appends old mid (own_line (by_of layout releases most limit) column) → P row_records → Q column row_records)
        → IfSome left (λ bytes. P (records_left layout bytes)) → IfSome known (λ column. (row_records : List CsvRecord) × AreRowRecords layout column row_records × Q column row_records)
    begun_as P Q below p = if_some known _ (λ column e.
        let text = read_by layout column in
        let (rest, at, same) = for_some inside _ text begins (within column e) in
        (rows_read column, refl, below column (rows_read column) (for_some inside _ text head (within column e)) (subst P same (for_some left _ rest p at))))

    -- the header has no fault
    sound_header : IfSome inside (λ bytes. fault_read layout releases.zones bytes ≡ None) → (column : List ℕ) → known ≡ Some column → IsHeaderFault (by_of layout releases most limit) column None
    sound_header none column e = sym (for_some inside _ (read_by layout column) none (within column e))

    pub converts_column : (n : ℕ) → IfSome inside (λ bytes. fault_read layout releases.zones bytes ≡ None) → ConvertsRest (by_of layout releases most limit) left n (output mid new log last)
        → ConvertsColumn (by_of layout releases most limit) known n (output old new log last)
    converts_column n none rest = if_some known _ (λ column e.
        let fault = sound_header none column e in
        let rows = begun_as (λ row_records. WritesRows (by_of layout releases most limit) [] row_records n (output mid new log last))
        (λ column row_records. WritesRows (by_of layout releases most limit) (own_line (by_of layout releases most limit) column) row_records n (output old new log last))
        (λ column row_records line w. rows_below (by_of layout releases most limit) row_records (own_line (by_of layout releases most limit) column) old mid new log last line n w) rest in
        let (row_records, are, w) = for_some known _ column rows e in
        (fault, row_records, are, w))

    pub ends_column : (why : RunStop) → IfSome inside (λ bytes. fault_read layout releases.zones bytes ≡ None) → EndsInRest (by_of layout releases most limit) left why (output mid new log last)
        → EndsInColumn (by_of layout releases most limit) known why (output old new log last)
    ends_column why none ends = if_some known _ (λ column e.
        let rows = begun_as (λ row_records. EndsIn (by_of layout releases most limit) [] row_records why (output mid new log last))
        (λ column row_records. EndsIn (by_of layout releases most limit) (own_line (by_of layout releases most limit) column) row_records why (output old new log last))
        (λ column row_records line w. ends_below (by_of layout releases most limit) row_records (own_line (by_of layout releases most limit) column) old mid new log last line why w) ends in
        let (row_records, are, w) = for_some known _ column rows e in
        inr (inl (sound_header none column e), row_records, are, w))
