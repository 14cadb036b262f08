-- That all records come to rows, up to the first fault.
use Rattle.std.proofs.Common.{◌∙◌, ◌≡◌, ◌+◌, ℕ, ℤ, suc, Bool, true, false, List, [], ◌∷◌, ◌++◌, length, Option, Some, None, Result, Ok, Err, inl, inr, refl, sym, subst}
use Rattle.std.specs.Prelude.{◌||◌, All, IfSome, bytes_eq, is_some, nat_le, option_map, slice_get}
use Rattle.std.specs.Cmp.Lexicographic.{bytes_decides}
use Rattle.std.proofs.lemmas.Bool.{cases_Bool}
use Rattle.std.proofs.lemmas.List.{append-nil}
use Rattle.std.proofs.lemmas.List.Elements.{All-contains}
use Rattle.zic_base.specs.Check.{check, first_failed}
use Rattle.zic_row_text.specs.Count.{second_of}
use Rattle.zic_columns.specs.Own.{CsvRecord}
use Rattle.zic_columns.specs.Round.{may_have}
use Rattle.zic_files.specs.File.{File}
use Rattle.zic_layouts.specs.Layout.{has_count}
use Rattle.zic_layouts.specs.RowField.{compared_of}
use Rattle.zic_layouts.specs.declared.layout.Layout.{Layout}
use Rattle.zic_layouts.specs.declared.row_field.RowField.{RowField}
use Rattle.zic_zones.specs.declared.zones.Releases.{Releases}
use Rattle.zic_base.specs.declared.row_fault.RowKind.{RowKind}
use Rattle.zic_base.specs.declared.row_fault.RowKind.TheVariants as kind
use Rattle.zic_zones.specs.Zones.{is_named, number_of, zone_in}
use Rattle.zic_piece_rows.specs.Rows.{is_row_instant}
use Rattle.zic_piece_rows.specs.LayoutRows.{HasAnswer, RecordsConvertBy, IsAnswer, IsAnswerAt, IsRowAt, IsRowBy, IsSoundAnswer, IsSoundRow, IsWrittenWith, empty_fields, with_answer, count_in, ended, ends_by, fault_by, faulty_text, field_by, fields_by, first_field, following_fields, has_right_quotes, instant_by, keeps, row_fields, start_text, time_by, time_in, timeless_text, ok_count, err_fault}
use Rattle.zic_piece_rows.specs.PieceRows.{AreRowsOf, RowsOf}
use Rattle.zic_piece_rows.proofs.Coming.{come_after, come_more}
use Rattle.zic_piece_rows.proofs.MadeTexts.{among}
use Rattle.zic_piece_rows.proofs.RowFaults.{found}
use Rattle.zic_convert.proofs.Sounds.{IsKnown}

-- checks that all pass
passed : (a b c d e f g : Bool) (k l m n o p q : RowKind) → first_failed (check a k ∷ check b l ∷ check c m ∷ check d n ∷ check e o ∷ check f p ∷ check g q ∷ []) ≡ None → (e ≡ true) × (f ≡ true)
passed false b c d e f g k l m n o p q h = absurd (cc h)
passed true false c d e f g k l m n o p q h = absurd (cc h)
passed true true false d e f g k l m n o p q h = absurd (cc h)
passed true true true false e f g k l m n o p q h = absurd (cc h)
passed true true true true false f g k l m n o p q h = absurd (cc h)
passed true true true true true false g k l m n o p q h = absurd (cc h)
passed true true true true true true g k l m n o p q h = (refl, refl)

-- the count that is there
the_count : (r : Result ℤ RowKind) → is_some (ok_count r) ≡ true → (x : ℤ) × (r ≡ Ok x)
the_count (Err kind) h = absurd (cc h)
the_count (Ok x) h = (x, refl)

-- the number of the file that has a name
numbered : (files : List File) (name : List ℕ) → is_named files name ≡ true → (n : ℕ) × (number_of files name ≡ Some n)
numbered [] name h = absurd (cc h)
numbered (f ∷ files) name h =
    elim (cases_Bool (bytes_eq f.name name)) [
      | inl same ↦ (0, rw same refl)
      | inr other ↦ let rest = numbered files name (rw other at h) in (suc rest.0, rw (other, rest.1) refl)
    ]

module _ (layout : Layout) (files : List File) (most : ℕ) (known : All IsKnown files) where
  -- the count of a field that tells an instant
  input_for : (file : File) (o : Option ℤ) (count : ℤ) → time_by layout (Some file) o ≡ Ok count
      → (input : ℤ) × (o ≡ Some input) × (instant_by layout.from layout.unit file input ≡ Ok count)
  input_for file None count is = absurd (cc is)
  input_for file (Some input) count is = (input, refl, is)

  input_in : (fields : List (List ℕ)) (n : ℕ) (file : File) (count : ℤ) → number_of files (zone_in layout.zone fields) ≡ Some n → slice_get files n ≡ Some file
      → time_in layout files fields ≡ Ok count → (input : ℤ) × (count_in layout fields ≡ Some input) × (instant_by layout.from layout.unit file input ≡ Ok count)
  input_in fields n file count number got is = input_for file (count_in layout fields) count (rw (number, got) at is)

  -- the text of a row without a fault
  have_text : (number : ℕ) (row_record : CsvRecord) → keeps layout row_record ≡ false → fault_by layout files most number row_record ≡ None → HasAnswer layout files row_record
  have_text number row_record unkept none =
      let zone = zone_in layout.zone row_record.fields in
      let time = time_in layout files row_record.fields in
      let kept = keeps layout row_record in
      let (named, passes) = passed (nat_le number most) (may_have layout.max_record (length row_record.own)) (has_right_quotes layout.quotes layout.delimiter row_record) (has_count layout.count (length row_record.fields)) (is_named files zone) (kept || is_some (ok_count time)) (kept || is_row_instant (option_map (second_of layout.unit) (ok_count time)))
      kind.TooManyRows kind.RowTooLong kind.RowQuote kind.RowFields kind.RowZone (err_fault time) kind.RowRange none in
      let says : is_some (ok_count time) ≡ true = subst (λ (b : Bool). (b || is_some (ok_count time)) ≡ true) unkept passes in
      let (n, number) = numbered files zone named in
      let (file, got, called, is_known) = found files zone n number in
      let has = among files n file got in
      let (count, at) = the_count time says in
      let (input, said, means) = input_in row_record.fields n file count number got at in
      let (state, answers) = All-contains IsKnown files file known has (second_of layout.unit count) in
      record {
        file = file;
        among = has;
        named = called;
        input = input;
        says = said;
        count = count;
        means = means;
        state = state;
        answers = answers;
      }

  -- of a sound row
  have_sound : (number : ℕ) (row_record : CsvRecord) → fault_by layout files most number row_record ≡ None → (kept : Bool) → keeps layout row_record ≡ kept → (text : List ℕ) × IsSoundRow kept layout files row_record text
  have_sound number row_record none true e = (timeless_text layout.start layout row_record, refl)
  have_sound number row_record none false e =
      let has = have_text number row_record e none in (
        start_text layout row_record.own has.file.name has.input (field_by layout (first_field layout) has.file has.input has.count has.state)
            ++ fields_by layout (following_fields layout) has.file has.input has.count has.state,
        record { has = has; is = refl },
      )

  have_sound_answer : (fields : List RowField) (without : List ℕ) (number : ℕ) (row_record : CsvRecord) → fault_by layout files most number row_record ≡ None → (kept : Bool) → keeps layout row_record ≡ kept
      → (answer : List ℕ) × IsSoundAnswer kept layout fields without files row_record answer
  have_sound_answer fields without number row_record none true e = (without, refl)
  have_sound_answer fields without number row_record none false e =
      let has = have_text number row_record e none in
      (fields_by layout fields has.file has.input has.count has.state, record { has = has; is = refl })

  -- the text of a row, with a fault or without
  have_row : (number : ℕ) (row_record : CsvRecord) → (text : List ℕ) × IsRowBy layout files most number row_record text
  have_row number row_record = by_fault (fault_by layout files most number row_record) refl where
    by_fault : (fault : Option RowKind) → fault_by layout files most number row_record ≡ fault → (text : List ℕ) × IsRowAt layout files fault row_record text
    by_fault None e = have_sound number row_record e (keeps layout row_record) refl
    by_fault (Some fault) e = (faulty_text layout fault row_record, refl)

  -- what the files answer a record
  have_answer : (fields : List RowField) (without : List ℕ) (number : ℕ) (row_record : CsvRecord) → (answer : List ℕ) × IsAnswer layout fields without files most number row_record answer
  have_answer fields without number row_record = by_fault (fault_by layout files most number row_record) refl where
    by_fault : (fault : Option RowKind) → fault_by layout files most number row_record ≡ fault → (answer : List ℕ) × IsAnswerAt layout fields without files fault row_record answer
    by_fault None e = have_sound_answer fields without number row_record e (keeps layout row_record) refl
    by_fault (Some fault) e = (without, refl)

module _ (layout : Layout) (releases : Releases) (most : ℕ) (known : All IsKnown releases.zones × IfSome releases.old (All IsKnown)) where
  -- what is written of a record
  have_written : (number : ℕ) (row_record : CsvRecord) (old : Option (List File)) → IfSome old (All IsKnown) → (text : List ℕ) × IsWrittenWith old layout releases.zones most number row_record text
  have_written number row_record None all = have_row layout releases.zones most known.0 number row_record
  have_written number row_record (Some old) all =
      let (row, is_row) = have_row layout releases.zones most known.0 number row_record in
      let fields = row_fields layout in
      let compared = compared_of layout.compared fields in
      let (seen, is_seen) = have_answer layout releases.zones most known.0 compared [] number row_record in
      let (old_seen, is_old_seen) = have_answer layout old most all compared [] number row_record in
      let (old_answer, is_old_answer) = have_answer layout old most all fields (empty_fields layout.delimiter fields) number row_record in
      elim (cases_Bool (bytes_eq seen old_seen)) [
        | inl is ↦
            let same = (bytes_decides seen old_seen).0 is in
            ([], record { row = row; is_row = is_row; seen = seen; is_seen = is_seen; old_seen = old_seen; is_old_seen = is_old_seen; old_answer = old_answer; is_old_answer = is_old_answer; same = λ _. refl; moved = λ differ. absurd (differ same) })
        | inr unlike ↦
            let differ : (seen ≡ old_seen → ⊥) = λ e. (let yes = (bytes_decides seen old_seen).1 e in cc (sym yes ∙ unlike)) in
            (with_answer row old_answer, record { row = row; is_row = is_row; seen = seen; is_seen = is_seen; old_seen = old_seen; is_old_seen = is_old_seen; old_answer = old_answer; is_old_answer = is_old_answer; same = λ e. absurd (differ e); moved = λ _. refl })
      ]

  row_first : (number : ℕ) (row_record : CsvRecord) (row_records : List CsvRecord) (fault : Option RowKind) → ends_by layout releases.zones most number row_record ≡ fault
      → ((texts : List (List ℕ)) × (last : Option RowKind) × RecordsConvertBy layout releases most (number + 1) row_records texts last)
      → (texts : List (List ℕ)) × (last : Option RowKind) × RecordsConvertBy layout releases most number (row_record ∷ row_records) texts last
  row_first number row_record row_records (Some k) e rest = ([], Some k, (sym e, refl))
  row_first number row_record row_records None e rest =
      let (text, is) = have_written number row_record releases.old known.1 in
      (ended layout.line_end text ∷ rest.0, rest.1, (e, record { row = text; is_row = is; is = refl }, rest.2))

  -- what all records come to
  pub all_come : (number : ℕ) (row_records : List CsvRecord) → (texts : List (List ℕ)) × (last : Option RowKind) × RecordsConvertBy layout releases most number row_records texts last
  all_come number [] = ([], None, (refl, refl))
  all_come number (row_record ∷ row_records) = row_first number row_record row_records (ends_by layout releases.zones most number row_record) refl (all_come (number + 1) row_records)

  more_by : (number : ℕ) (rs more : List CsvRecord) (rows : RowsOf) (fault : Option RowKind) → rows.fault ≡ fault → (are : AreRowsOf layout releases most number rs rows)
      → (texts : List (List ℕ)) × (last : Option RowKind) × RecordsConvertBy layout releases most number (rs ++ more) texts last × (others : List (List ℕ)) × (texts ≡ are.texts ++ others)
  more_by number rs more rows (Some k) e are = (are.texts, Some k, come_more layout releases most number rs more are.texts k (rw e at are.come), [], sym (append-nil are.texts))
  more_by number rs more rows None e are =
      let (texts, last, come) = all_come (number + length are.texts) more in
      (are.texts ++ texts, last, come_after layout releases most number rs more are.texts texts last (rw e at are.come) come, texts, refl)

  -- rows of the first records, and what all come to
  pub more_than : (number : ℕ) (rs more : List CsvRecord) (rows : RowsOf) → (are : AreRowsOf layout releases most number rs rows)
      → (texts : List (List ℕ)) × (last : Option RowKind) × RecordsConvertBy layout releases most number (rs ++ more) texts last × (others : List (List ℕ)) × (texts ≡ are.texts ++ others)
  more_than number rs more rows are = more_by number rs more rows rows.fault refl are
