-- The fault of a header, by its own bytes.
use Rattle.std.proofs.Common.{◌≡◌, ◌⊎◌, ◌∙◌, ℕ, ℤ, true, false, List, [], ◌∷◌, ◌++◌, map, take, arith, Option, Some, None, Result, inl, inr, refl, sym, ap, subst, ⊎_elim}
use Rattle.std.specs.Option.{option_or}
use Rattle.std.specs.Prelude.{All, IfSome, IsSome, ◌==◌, is_some, length, nat_le, option_map, slice_get}
use Rattle.csv.specs.Reading.{strip_bom}
use Rattle.zic_base.specs.declared.stops.RunStop.TheVariants as stop
use Rattle.zic_counted.specs.Counts.{Counts}
use Rattle.zic_layouts.specs.Layout.{records_before}
use Rattle.zic_layouts.specs.declared.layout.Header.{Header}
use Rattle.zic_layouts.specs.declared.layout.Header.TheVariants as headers
use Rattle.zic_convert.specs.By.{by_of}
use Rattle.zic_convert.specs.Column.{header_read, own_header, records_read, texts_read}
use Rattle.zic_convert.specs.Run.{EndsByZones, LogBegan}
use Rattle.zic_convert.specs.code.Halt.{IsCauseOfHalt, stop_of}
use Rattle.zic_convert.specs.declared.halt.Halt.{Halt}
use Rattle.zic_convert.specs.declared.halt.Halt.TheVariants as halt
use Rattle.zic_convert.proofs.Options.{for_some, if_some}
use Rattle.std.proofs.lemmas.Bool.{cases_Bool, eqb-true}
use Rattle.std.proofs.lemmas.List.{append-nil}
use Rattle.std.proofs.lemmas.List.Elements.{All-cons, All-head}
use Rattle.zic_base.specs.declared.row_fault.RowKind.{RowKind}
use Rattle.zic_base.specs.declared.row_fault.RowKind.TheVariants as kinds
use Rattle.zic_columns.specs.Column.{CanDelimit, HasNoLineEnd}
use Rattle.zic_columns.specs.Laws.{FirstRecordIsAlone}
use Rattle.zic_columns.proofs.ByMode.{owns_by}
use Rattle.zic_columns.specs.Lines.{line_records, open_record, records_by, texts_by}
use Rattle.zic_columns.specs.Own.{CsvRecord, csv_records, first_text}
use Rattle.zic_columns.specs.Quotes.{is_open}
use Rattle.zic_columns.specs.Round.{may_have, records_of}
use Rattle.zic_columns.proofs.PieceRecords.{wholes_none}
use Rattle.zic_columns.proofs.SomeRecords.{column_records-nil}
use Rattle.zic_files.specs.File.{File}
use Rattle.zic_layouts.specs.declared.layout.AtFault.{AtFault}
use Rattle.zic_layouts.specs.declared.layout.AtFault.TheVariants as at
use Rattle.zic_layouts.specs.Layout.{AreSameZones, IsUnkept, has_count}
use Rattle.zic_layouts.specs.declared.layout.EmptyTime.TheVariants as empty
use Rattle.zic_layouts.specs.declared.layout.Layout.{Layout}
use Rattle.zic_layouts.specs.declared.layout.ZoneFrom.{ZoneFrom}
use Rattle.zic_layouts.specs.declared.layout.ZoneFrom.TheVariants as from
use Rattle.zic_layouts.specs.declared.layout.Records.{Records}
use Rattle.zic_layouts.specs.declared.layout.Records.TheVariants as by
use Rattle.zic_layouts.specs.Noted.{RowNote}
use Rattle.zic_zones.specs.Zones.{ReleasesAgree, is_named, zone_in}
use Rattle.zic_zones.specs.declared.zones.Releases.{Releases}
use Rattle.zic_piece_rows.specs.LayoutRows.{count_in, ending, ends_by, err_fault, fault_by, file_named, has_right_quotes, if_rejected, noted, ok_count, time_by}
use Rattle.zic_base.specs.Check.{first_failed}
use Rattle.zic_row_text.specs.Count.{second_of}
use Rattle.zic_piece_rows.specs.Rows.{is_row_instant, row_checks}
use Rattle.zic_piece_rows.specs.PieceRows.{AreRowsOf, RowsOf}
use Rattle.zic_convert.specs.Header.{fault_read, header_fault, header_kind, unkept}
use Rattle.zic_convert.specs.code.Progress.{AreOfOne, EndsNoLine, HaltsAtCheck, HaltsAtHead, IsOwnFault, header_passed, is_open_by, kept_of, records_left}
use Rattle.zic_convert.proofs.Staying.{IsKnownZone, fault_same, kept, round_known}

-- a fault that ends a run is that of the row
ending_is : (at : AtFault) (mode : Records) (fault : Option RowKind) (k : RowKind) → ending at mode fault ≡ Some k → fault ≡ Some k
ending_is at.End mode fault k is = is
ending_is at.GoOn mode None k is = absurd (cc is)
ending_is at.GoOn mode (Some kinds.TooManyRows) k is = is
ending_is at.GoOn by.Csv (Some kinds.RowTooLong) k is = is
ending_is at.GoOn by.Lines (Some kinds.RowTooLong) k is = absurd (cc is)
ending_is at.GoOn mode (Some kinds.RowQuote) k is = absurd (cc is)
ending_is at.GoOn mode (Some kinds.RowFields) k is = absurd (cc is)
ending_is at.GoOn mode (Some kinds.RowZone) k is = absurd (cc is)
ending_is at.GoOn mode (Some kinds.RowInstant) k is = absurd (cc is)
ending_is at.GoOn mode (Some kinds.RowLocal) k is = absurd (cc is)
ending_is at.GoOn mode (Some kinds.RowRange) k is = absurd (cc is)
ending_is at.GoOn mode (Some kinds.RowSkipped) k is = absurd (cc is)
ending_is at.GoOn mode (Some kinds.RowRepeated) k is = absurd (cc is)
ending_is at.GoOn mode (Some kinds.HeaderIsRow) k is = absurd (cc is)
ending_is at.Reject mode None k is = absurd (cc is)
ending_is at.Reject mode (Some kinds.TooManyRows) k is = is
ending_is at.Reject by.Csv (Some kinds.RowTooLong) k is = is
ending_is at.Reject by.Lines (Some kinds.RowTooLong) k is = absurd (cc is)
ending_is at.Reject mode (Some kinds.RowQuote) k is = absurd (cc is)
ending_is at.Reject mode (Some kinds.RowFields) k is = absurd (cc is)
ending_is at.Reject mode (Some kinds.RowZone) k is = absurd (cc is)
ending_is at.Reject mode (Some kinds.RowInstant) k is = absurd (cc is)
ending_is at.Reject mode (Some kinds.RowLocal) k is = absurd (cc is)
ending_is at.Reject mode (Some kinds.RowRange) k is = absurd (cc is)
ending_is at.Reject mode (Some kinds.RowSkipped) k is = absurd (cc is)
ending_is at.Reject mode (Some kinds.RowRepeated) k is = absurd (cc is)
ending_is at.Reject mode (Some kinds.HeaderIsRow) k is = absurd (cc is)

-- the kind of the first that was noted
pub first_noted : List RowNote → Option RowKind
first_noted [] = None
first_noted (note ∷ notes) = Some note.fault.kind

pub first_is : (notes : List RowNote) (item : Option RowNote) → item ≡ slice_get notes 0 → option_map (λ note. note.fault.kind) item ≡ first_noted notes
unfolding first_noted
first_is [] item is = rw is refl
first_is (note ∷ notes) item is = rw is refl

noted_first : (at : AtFault) (number : ℕ) (own : List ℕ) (fault : Option RowKind) → first_noted (noted at number own fault ++ []) ≡ fault
unfolding first_noted
noted_first at number own None = refl
noted_first at number own (Some kind) = refl

module _ (layout : Layout) (releases : Releases) (given : CsvRecord) (rows : RowsOf) where
  by_texts : (texts : List (List ℕ)) → (are : AreRowsOf layout releases 0 0 (given ∷ []) rows) → are.texts ≡ texts → option_or rows.fault (first_noted rows.faults) ≡ fault_by layout releases.zones 0 0 given
  by_texts [] are is =
      let come = rw is at are.come in
      some_end rows.fault come.0 come.1
    where
      some_end : (fault : Option RowKind) → fault ≡ ends_by layout releases.zones 0 0 given → IsSome fault → option_or fault (first_noted rows.faults) ≡ fault_by layout releases.zones 0 0 given
      some_end None same has = absurd (cc has)
      some_end (Some kind) same has = sym (ending_is layout.at_fault layout.records (fault_by layout releases.zones 0 0 given) kind (sym same))
  by_texts (text ∷ []) are is =
      let come = rw is at are.come in
      let none : rows.fault ≡ None = come.2.1 in
      let notes : rows.faults ≡ noted layout.at_fault 0 given.own (fault_by layout releases.zones 0 0 given) ++ [] = rw come.0 at are.faults in
      rw none (ap first_noted notes ∙ noted_first layout.at_fault 0 given.own (fault_by layout releases.zones 0 0 given))
  by_texts (text ∷ next ∷ texts) are is =
      let come = rw is at are.come in
      absurd (cc come.2.0)

  pub one_fault : AreRowsOf layout releases 0 0 (given ∷ []) rows → option_or rows.fault (first_noted rows.faults) ≡ fault_by layout releases.zones 0 0 given
  one_fault are = by_texts are.texts are refl

none_by : (d : ℕ) (mode : Records) → records_by mode d [] ≡ []
none_by d by.Csv = wholes_none d [] (column_records-nil d)
none_by d by.Lines = refl

-- ---- which record it is

module _ (law : FirstRecordIsAlone) (d : ℕ) (can : CanDelimit d) where
  one_first : (mode : Records) (bytes : List ℕ) (all : List CsvRecord) → records_by mode d bytes ≡ all
      → (first_text (texts_by mode d bytes) ≡ []) ⊎ ((given : CsvRecord) × (records_by mode d (first_text (texts_by mode d bytes)) ≡ given ∷ []))
  one_first mode bytes [] is = inl (ap first_text (sym (owns_by d mode bytes) ∙ ap (map (λ (w : CsvRecord). w.own)) is))
  one_first mode bytes (given ∷ others) is = inr (given, law.same mode d bytes can ∙ ap (take 1) is)

  ended_first : (mode : Records) (bytes : List ℕ) → EndsNoLine mode (first_text (texts_by mode d bytes))
  ended_first by.Csv bytes = tt
  ended_first by.Lines bytes = law.ended bytes

  no_own : (mode : Records) → AreOfOne mode d []
  no_own by.Csv = record { one = inl refl; ended = tt }
  no_own by.Lines = record { one = inl refl; ended = law.ended [] }

  first_kept : (texts : List (List ℕ)) → first_text texts ≡ first_text (take 1 texts)
  first_kept [] = refl
  first_kept (text ∷ texts) = refl

  -- own bytes that are those of the first record, or of none
  of_passed : (mode : Records) (k : ℕ) (bytes : List ℕ) → (k ≡ 0) ⊎ (k ≡ 1) → AreOfOne mode d (first_text (take k (texts_by mode d bytes)))
  of_passed mode k bytes (inl none) = subst (λ (n : ℕ). AreOfOne mode d (first_text (take n (texts_by mode d bytes)))) (sym none) (no_own mode)
  of_passed mode k bytes (inr one) =
      subst (λ (n : ℕ). AreOfOne mode d (first_text (take n (texts_by mode d bytes)))) (sym one)
      (subst (AreOfOne mode d) (first_kept (texts_by mode d bytes)) (record { one = one_first mode bytes (records_by mode d bytes) refl; ended = ended_first mode bytes }))

  -- they have its record, or none
  passed_records : (mode : Records) (k : ℕ) (bytes : List ℕ) → (k ≡ 0) ⊎ (k ≡ 1) → records_by mode d (first_text (take k (texts_by mode d bytes))) ≡ take k (records_by mode d bytes)
  passed_records mode k bytes (inl none) = rw none (none_by d mode)
  passed_records mode k bytes (inr one) = rw one (ap (records_by mode d) (sym (first_kept (texts_by mode d bytes))) ∙ law.same mode d bytes can)

-- ---- the fault of a header with these own bytes

-- a fault goes by the zone's field or name
zone_fault : (layout : Layout) (a b : ZoneFrom) → AreSameZones a b → (files : List File) (most number : ℕ) (given : CsvRecord)
    → fault_by (record layout { zone = b; empty = empty.Fault }) files most number given ≡ fault_by (record layout { zone = a; empty = empty.Fault }) files most number given
zone_fault layout (from.Field i) (from.Field j) same files most number given = rw same refl
zone_fault layout (from.Name a) (from.Name b) same files most number given = ap fault_of_name same where
  time : List ℕ → Result ℤ RowKind
  time name = time_by layout (file_named files name) (count_in layout given.fields)

  fault_of_name : List ℕ → Option RowKind
  fault_of_name name =
      first_failed
      (row_checks (nat_le number most) (may_have layout.max_record (length given.own)) (has_right_quotes layout.quotes layout.delimiter given) (has_count layout.count (length given.fields)) (is_named files name)
      (is_some (ok_count (time name))) (err_fault (time name)) (is_row_instant (option_map (second_of layout.unit) (ok_count (time name)))))
zone_fault layout (from.Field i) (from.Name b) same files most number given = absurd same
zone_fault layout (from.Name a) (from.Field j) same files most number given = absurd same

-- the fault where an empty time is one
pub unkept_fault : (layout other : Layout) → IsUnkept layout other → (files : List File) (most number : ℕ) (given : CsvRecord) → fault_by other files most number given ≡ fault_by (unkept layout) files most number given
unkept_fault layout other (zone, same, is) files most number given = ap (λ (l : Layout). fault_by l files most number given) is ∙ zone_fault layout layout.zone zone same files most number given

module _ (law : FirstRecordIsAlone) (layout : Layout) (can : CanDelimit layout.delimiter) (own : List ℕ) where
  read_same : (mode : Records) → AreOfOne mode layout.delimiter own → is_open_by mode layout.delimiter own ≡ false → records_by mode layout.delimiter own ≡ csv_records layout.delimiter own
  read_same by.Csv of closed = refl
  read_same by.Lines of closed = law.closed layout.delimiter own can of.ended closed

  -- of a record that a CSV reader gives
  pub read_by_mode : (files : List File) (mode : Records) → (own ≡ [] → ⊥) → AreOfOne mode layout.delimiter own → is_open_by mode layout.delimiter own ≡ false → (fault : Option RowKind)
      → ((given : CsvRecord) → csv_records layout.delimiter own ≡ given ∷ [] → fault ≡ fault_by (unkept layout) files 0 0 given)
      → header_kind fault ≡ header_fault layout files (records_by mode layout.delimiter own)
  read_by_mode files mode some of closed fault is = ⊎_elim
      (λ (none : own ≡ []). absurd (some none))
      (λ (one : (given : CsvRecord) × (records_by mode layout.delimiter own ≡ given ∷ [])).
      ap header_kind (is one.0 (sym (read_same mode of closed) ∙ one.1)) ∙ sym (ap (header_fault layout files) one.1))
      of.one

  -- of an open line
  pub open_by_mode : (files : List File) (mode : Records) → EndsNoLine mode own → is_open_by mode layout.delimiter own ≡ true → (kind : RowKind)
      → fault_by (unkept layout) files 0 0 (open_record own) ≡ Some kind → header_kind (Some kind) ≡ header_fault layout files (records_by mode layout.delimiter own)
  open_by_mode files by.Csv ended opened kind is = absurd (cc opened)
  open_by_mode files by.Lines ended opened kind is = ap header_kind (sym is) ∙ sym (ap (header_fault layout files) (law.opened layout.delimiter own can ended opened))

pub empty_own : (own : List ℕ) → true ≡ (length own == 0) → own ≡ []
empty_own [] is = refl
empty_own (byte ∷ own) is = absurd (let none : length (byte ∷ own) ≡ 0 = eqb-true (length (byte ∷ own)) 0 (sym is) in omega (arith, none))

pub some_own : (own : List ℕ) → false ≡ (length own == 0) → own ≡ [] → ⊥
some_own [] is none = cc is
some_own (byte ∷ own) is none = cc none

-- no header has no fault
pub no_fault : (layout : Layout) (files : List File) (own : List ℕ) → own ≡ [] → header_fault layout files (records_left layout own) ≡ None
no_fault layout files own none = ap (λ (o : List ℕ). header_fault layout files (records_left layout o)) none ∙ ap (header_fault layout files) (none_by layout.delimiter layout.records)

-- ---- by the files that are known, and by all files that may be

module _ (law : FirstRecordIsAlone) (layout : Layout) (can : CanDelimit layout.delimiter) (settled : List ℕ → Type 0) (known releases : Releases) (agree : ReleasesAgree settled known releases)
    (own : List ℕ) (all : All settled (map (zone_in layout.zone) (records_of layout.delimiter (own ∷ [])))) where
  abbrev IsKnown : CsvRecord → Type 0
  IsKnown = IsKnownZone layout.zone known.zones releases.zones

  csv_known : All IsKnown (csv_records layout.delimiter own)
  csv_known = subst (All IsKnown) (append-nil (csv_records layout.delimiter own)) (round_known settled known.zones releases.zones agree.zones layout.zone layout.delimiter (own ∷ []) all)

  lines_known : HasNoLineEnd own → All IsKnown (line_records layout.delimiter own)
  lines_known none = ⊎_elim
      (λ (opened : is_open layout.delimiter own ≡ true).
      subst (All IsKnown) (sym (law.opened layout.delimiter own can none opened)) (All-cons IsKnown (open_record own) [] (λ no. absurd (cc no)) (λ k dflt lt. absurd (omega (arith, lt)))))
      (λ (closed : is_open layout.delimiter own ≡ false). subst (All IsKnown) (sym (law.closed layout.delimiter own can none closed)) csv_known)
      (cases_Bool (is_open layout.delimiter own))

  known_by : (mode : Records) → EndsNoLine mode own → All IsKnown (records_by mode layout.delimiter own)
  known_by by.Csv ended = csv_known
  known_by by.Lines ended = lines_known ended

  first_fault : (given : List CsvRecord) → All IsKnown given → header_fault layout known.zones given ≡ header_fault layout releases.zones given
  first_fault [] is = refl
  first_fault (first ∷ others) is =
      let keeps = (kept agree).zones in
      ap header_kind (fault_same known.zones releases.zones keeps.still keeps.differ (unkept layout) 0 0 first (All-head IsKnown first others is))

  pub own_same : AreOfOne layout.records layout.delimiter own → header_fault layout known.zones (records_left layout own) ≡ header_fault layout releases.zones (records_left layout own)
  own_same of = first_fault (records_left layout own) (known_by layout.records of.ended)

-- ---- the header of a column

before_is : (header : Header) → (records_before header ≡ 0) ⊎ (records_before header ≡ 1)
before_is headers.Absent = inl refl
before_is headers.First = inr refl
before_is headers.Skipped = inr refl

-- the own bytes that are written and logged
pub kept_header : (header : Header) (texts : List (List ℕ)) → kept_of header (first_text (take (records_before header) texts)) ≡ own_header header texts
kept_header headers.Absent texts = refl
kept_header headers.First [] = refl
kept_header headers.First (text ∷ texts) = refl
kept_header headers.Skipped texts = refl

module _ (law : FirstRecordIsAlone) (layout : Layout) (can : CanDelimit layout.delimiter) (known : Option (List ℕ)) (own : List ℕ) (is : IfSome known (λ bytes. own ≡ header_passed layout bytes)) where
  pub kept_is : (kept : List ℕ) → kept ≡ kept_of layout.header own → IfSome known (λ bytes. kept ≡ header_read layout bytes)
  kept_is kept same = if_some known _ (λ bytes e. same ∙ ap (kept_of layout.header) (for_some known _ bytes is e) ∙ kept_header layout.header (texts_read layout bytes))

  -- the log began with them
  pub began_head : (kept rejected : List ℕ) (began : Option (List ℕ)) → kept ≡ kept_of layout.header own → rejected ≡ if_rejected layout.at_fault kept
      → IfSome began (λ o. o ≡ rejected) → LogBegan (λ bytes. if_rejected layout.at_fault (header_read layout bytes)) known began
  began_head kept rejected began same put has = if_some known _ (λ bytes e.
      if_some began _ (λ o there. for_some began _ o has there ∙ put ∙ ap (if_rejected layout.at_fault) (for_some known _ bytes (kept_is kept same) e)))

  -- the fault of the header is that of its own bytes
  module _ (files : List File) (fault : Option RowKind) (found : IsOwnFault layout files own fault) where
    pub fault_in : IfSome known (λ bytes. fault_read layout files bytes ≡ fault)
    fault_in = if_some known _ (λ bytes e.
        let d = layout.delimiter in
        let k = records_before layout.header in
        let passed = for_some known _ bytes is e in
        let before = before_is layout.header in
        let of : AreOfOne layout.records d own = subst (AreOfOne layout.records d) (sym passed) (of_passed law d can layout.records k (strip_bom bytes) before) in
        let same : records_left layout own ≡ take k (records_read layout bytes) = ap (records_left layout) passed ∙ passed_records law d can layout.records k (strip_bom bytes) before in
        sym (found of ∙ ap (header_fault layout files) same))

  -- the check of the header ended the run
  module _ {W Z : Type 0} (contents : W → Option (List ℕ)) (writer : Counts W) (grown broken : Z → Z → Type 0) (may_be : Z → Releases → Type 0) (still : (z : Z) → grown z z) (most : ℕ) (old new : Z) where
    pub check_halts : (why : Halt) → HaltsAtCheck grown broken may_be old new layout own why
        → EndsByZones grown broken may_be old new (stop_of why) (λ releases. HaltsAtHead contents writer writer (by_of layout releases most None) known why)
    check_halts halt.Unread ends = absurd ends
    check_halts (halt.Stop stop.Memory) (inl grew) = record { then = new; grown = grew; ends = inl refl; by = λ releases may. refl }
    check_halts (halt.Stop stop.Memory) (inr broke) = record { then = old; grown = still old; ends = inr (refl, broke); by = λ releases may. refl }
    check_halts (halt.Stop (stop.Row row kind)) ends = record {
      then = new;
      grown = ends.1;
      ends = inl refl;
      by = λ releases may. (refl, record { kind = kind; is = ap (λ (n : ℕ). stop.Row n kind) ends.0; fault = fault_in releases.zones (Some kind) (ends.2 releases may) });
    }
    check_halts (halt.Stop (stop.Source fault)) ends = absurd ends
    check_halts (halt.Stop stop.ReadFailed) ends = absurd ends
    check_halts (halt.Stop stop.WriteFailed) ends = absurd ends
    check_halts (halt.Stop stop.ColumnTooLong) ends = absurd ends
    check_halts (halt.Stop stop.NoThread) ends = absurd ends
    check_halts (halt.Stop stop.LogFailed) ends = absurd ends

    pub check_cause : (why : Halt) → HaltsAtCheck grown broken may_be old new layout own why → IsCauseOfHalt writer writer why
    check_cause halt.Unread ends = absurd ends
    check_cause (halt.Stop stop.Memory) ends = tt
    check_cause (halt.Stop (stop.Row row kind)) ends = refl
    check_cause (halt.Stop (stop.Source fault)) ends = absurd ends
    check_cause (halt.Stop stop.ReadFailed) ends = absurd ends
    check_cause (halt.Stop stop.WriteFailed) ends = absurd ends
    check_cause (halt.Stop stop.ColumnTooLong) ends = absurd ends
    check_cause (halt.Stop stop.NoThread) ends = absurd ends
    check_cause (halt.Stop stop.LogFailed) ends = absurd ends
