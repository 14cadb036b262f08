-- Records of two plain fields, by a layout.
use Rattle.std.proofs.Common.{◌≡◌, ◌+◌, ◌==◌, ℕ, ℤ, Bool, true, false, List, [], ◌∷◌, ◌++◌, length, Option, Some, None, Result, Ok, append_assoc, refl, sym, ap, subst, ◌∙◌, arith, drop}
use Rattle.std.specs.Prelude.{◌↔◌, is_some, nat_le, option_map}
use Rattle.std.specs.Fmt.{signed_decimal}
use Rattle.std.proofs.Math.Bool.{and-true}
use Rattle.std.proofs.lemmas.Bool.{eqb-true, ne_eqb}
use Rattle.csv.specs.Reading.{strip_bom}
use Rattle.zic_base.specs.Check.{check, first_failed}
use Rattle.zic_base.specs.State.{Shown}
use Rattle.zic_base.specs.declared.row_fault.RowKind.{RowKind}
use Rattle.zic_base.specs.declared.row_fault.RowKind.TheVariants as kind
use Rattle.zic_columns.proofs.PieceRecords.{wholes_fields}
use Rattle.zic_columns.specs.Column.{AreColumnRecords, column_records}
use Rattle.zic_columns.specs.Laws.{ColumnRecordsAreRead, RecordsAreOne}
use Rattle.zic_columns.specs.Own.{CsvRecord, csv_records}
use Rattle.zic_files.specs.File.{File}
use Rattle.zic_layouts.specs.Layout.{HasPlainRows, records_before}
use Rattle.zic_layouts.specs.declared.layout.Header.TheVariants as header
use Rattle.zic_layouts.specs.declared.layout.Layout.{Layout}
use Rattle.zic_layouts.specs.declared.layout.Style.TheVariants as styles
use Rattle.zic_layouts.specs.declared.layout.Unit.{Unit}
use Rattle.zic_layouts.specs.declared.layout.Unit.TheVariants as unit
use Rattle.zic_row_text.proofs.UsualFields.{usual_fields}
use Rattle.zic_row_text.proofs.Counts.{count_seconds, counted_seconds, second_one}
use Rattle.zic_row_text.specs.Count.{counted_rest_text, counted_row_text, second_of}
use Rattle.zic_row_text.specs.Instant.{instant_of}
use Rattle.zic_row_text.specs.Row.{row_text}
use Rattle.zic_tzif.specs.Answer.{Answers}
use Rattle.zic_zones.specs.Zones.{alone, is_named, zone_in}
use Rattle.zic_zones.specs.declared.zones.Releases.{Releases}
use Rattle.zic_convert.specs.By.{By}
use Rattle.zic_convert.specs.Column.{AreRowRecords, ConvertsBodyTo, ConvertsBy, ConvertsTo, read_by, records_read}
use Rattle.zic_convert.specs.Laws.{PlainColumnsConvertAlike}
use Rattle.zic_piece_rows.specs.Rows.{RecordsConvertTo, IsTextOf, fault_of, instant_in, is_closed, is_row_instant, name_in}
use Rattle.zic_piece_rows.specs.LayoutRows.{RecordsConvertBy, IsRowAt, IsSoundRow, IsTextBy, count_in, ended, ends_by, fault_by, field_by, fields_by, file_named, first_field, following_fields, keeps, start_text, time_by, ok_count, err_fault}
use Rattle.zic_convert.specs.code.Row.{fields_of_all}

same_seconds : (o : Option ℤ) → option_map (second_of unit.Second) o ≡ o
same_seconds None = refl
same_seconds (Some t) = ap (λ (x : ℤ). Some x) (second_one t)

same_instant : (a b : ℤ) → ◌≡◌ {A = Result ℤ RowKind} (Ok a) (Ok b) → a ≡ b
same_instant a b same = cc

-- checks that all pass
fourth_passes : (a b c d e f g : Bool) (k l m n o p q : RowKind) → first_failed (check a k ∷ check b l ∷ check c m ∷ check d n ∷ check e o ∷ check f p ∷ check g q ∷ []) ≡ None → d ≡ true
fourth_passes false b c d e f g k l m n o p q h = absurd (cc h)
fourth_passes true false c d e f g k l m n o p q h = absurd (cc h)
fourth_passes true true false d e f g k l m n o p q h = absurd (cc h)
fourth_passes true true true false e f g k l m n o p q h = absurd (cc h)
fourth_passes true true true true e f g k l m n o p q h = refl

two_fields : (fields : List (List ℕ)) → length fields ≡ 2 → (name : List ℕ) × (field : List ℕ) × (fields ≡ name ∷ field ∷ [])
two_fields [] e = absurd (omega (arith, e))
two_fields (a ∷ []) e = absurd (omega (arith, e))
two_fields (a ∷ b ∷ []) e = (a, b, refl)
two_fields (a ∷ b ∷ c ∷ rest) e = absurd (omega (arith, e))

-- the text of a row, in the two parts in which it is written
pub row_in_parts : (u : Unit) (name : List ℕ) (count : ℤ) (state : Shown) → (name ++ 44 ∷ signed_decimal count) ++ counted_rest_text 44 styles.Fields u count state ≡ counted_row_text u name count state
unfolding counted_row_text
row_in_parts u name count state = append_assoc name (44 ∷ signed_decimal count) (counted_rest_text 44 styles.Fields u count state)

module _ (layout : Layout) (plain : HasPlainRows layout) (files : List File) where
  -- the text of a row that begins with a name and an instant, with commas
  plain_row_text : (own name : List ℕ) (count : ℤ) (state : Shown)
      → (file : File) (input : ℤ) (first : List ℕ) → start_text layout own name count first ++ fields_by layout (following_fields layout) file input count state ≡ row_text name count state
  plain_row_text own name count state file input first =
      rw (plain.start, plain.fields, plain.delimiter, plain.from, plain.unit)
      (ap (λ (l : List ℕ). (name ++ 44 ∷ signed_decimal count) ++ l) (usual_fields 44 styles.Fields unit.Second count state [])
      ∙ row_in_parts unit.Second name count state ∙ counted_seconds name count state)

  -- rows end with a line feed
  plain_ended : (row : List ℕ) → ended layout.line_end row ≡ row
  plain_ended row = rw plain.line_end refl

  -- no empty field is kept
  pub none_kept : (row_record : CsvRecord) → keeps layout row_record ≡ false
  none_kept row_record = rw plain.empty refl

  -- the count of a field is that of an instant
  plain_count : (file : Option File) (count : Option ℤ) → ok_count (time_by layout file count) ≡ count
  plain_count file None = refl
  plain_count None (Some count) = refl
  plain_count (Some file) (Some count) = rw plain.from refl

  -- and a field without one isn't one
  plain_missing : (file : Option File) (count : Option ℤ) → err_fault (time_by layout file count) ≡ kind.RowInstant
  plain_missing file None = rw plain.from refl
  plain_missing None (Some count) = refl
  plain_missing (Some file) (Some count) = rw plain.from refl

  module _ (most : ℕ) where
    -- so does one of other than two fields
    other_fault : (number : ℕ) (own : List ℕ) (fields : List (List ℕ)) → (length fields == 2) ≡ false → fault_by layout files most number (record { own = own; fields = fields }) ≡ fault_of files most number fields
    other_fault number own fields other = rw (plain.max_record, plain.quotes, and-true (is_closed fields), plain.count, other) refl

    fault_made : (number : ℕ) (own : List ℕ) (fields : List (List ℕ)) → fault_by layout files most number (record { own = own; fields = fields }) ≡ fault_of files most number fields
    fault_made number own [] = other_fault number own [] (ne_eqb (length {A = List ℕ} []) 2 (λ e. omega (arith, e)))
    fault_made number own (a ∷ []) = other_fault number own (a ∷ []) (ne_eqb (length (a ∷ [])) 2 (λ e. omega (arith, e)))
    fault_made number own (a ∷ b ∷ []) =
        let file = file_named files (zone_in layout.zone (a ∷ b ∷ [])) in
        let count = count_in layout (a ∷ b ∷ []) in
        rw (plain.max_record, plain.quotes, plain.empty, plain_count file count, plain_missing file count, plain.count, plain.zone, plain.time, plain.from, plain.unit, count_seconds b, same_seconds (instant_of b)) refl
    fault_made number own (a ∷ b ∷ c ∷ rest) = other_fault number own (a ∷ b ∷ c ∷ rest) (ne_eqb (length (a ∷ b ∷ c ∷ rest)) 2 (λ e. omega (arith, e)))

    -- a record has the fault that it has in a plain column
    pub plain_fault : (number : ℕ) (row_record : CsvRecord) → fault_by layout files most number row_record ≡ fault_of files most number row_record.fields
    plain_fault number row_record = fault_made number row_record.own row_record.fields

    -- which ends the run
    pub plain_ends : (number : ℕ) (row_record : CsvRecord) → ends_by layout files most number row_record ≡ fault_of files most number row_record.fields
    plain_ends number row_record = rw plain.at_fault (plain_fault number row_record)

  -- a record of two fields has the text that it has in a plain column, whatever its own bytes are
  text_by : (own : List ℕ) (fields : List (List ℕ)) (name field text : List ℕ) → fields ≡ name ∷ field ∷ [] → IsTextOf files fields text
      → IsTextBy layout files (record { own = own; fields = fields }) text
  text_by own fields name field text two is =
      let says = rw two at is.says in
      record {
        has = record {
          file = is.file;
          among = is.among;
          named = rw (plain.zone, two) (rw two at is.named);
          input = is.instant;
          says = rw (plain.time, plain.from, plain.unit, two, count_seconds field) says;
          count = is.instant;
          means = rw plain.from refl;
          state = is.state;
          answers = rw (plain.unit, second_one is.instant) is.answers;
        };
        is = is.is ∙ sym (plain_row_text own is.file.name is.instant is.state is.file is.instant _);
      }

  -- and the other way round
  text_plainly : (row_record : CsvRecord) (name field text : List ℕ) → row_record.fields ≡ name ∷ field ∷ [] → IsTextBy layout files row_record text → IsTextOf files row_record.fields text
  text_plainly row_record name field text two is =
      let says = rw (plain.time, plain.from, plain.unit, two, count_seconds field) at is.has.says in
      let same : is.has.input ≡ is.has.count = same_instant is.has.input is.has.count (rw plain.from at is.has.means) in
      let first = field_by layout (first_field layout) is.has.file is.has.input is.has.count is.has.state in
      record {
        file = is.has.file;
        among = is.has.among;
        named = rw two (rw (plain.zone, two) at is.has.named);
        instant = is.has.input;
        says = rw two says;
        state = is.has.state;
        answers = subst (λ (t : ℤ). Answers is.has.file.image.content t (Some is.has.state)) (sym same) (rw (plain.unit, second_one is.has.count) at is.has.answers);
        is = is.is
            ∙ ap (λ (t : ℤ). start_text layout row_record.own is.has.file.name is.has.input first ++ fields_by layout (following_fields layout) is.has.file is.has.input t is.has.state) (sym same)
            ∙ plain_row_text row_record.own is.has.file.name is.has.input is.has.state is.has.file is.has.input first;
      }

  -- a record without a fault has two fields
  two_of : (most number : ℕ) (fields : List (List ℕ)) → fault_of files most number fields ≡ None → (name : List ℕ) × (field : List ℕ) × (fields ≡ name ∷ field ∷ [])
  two_of most number fields none =
      let two = fourth_passes (nat_le number most) true (is_closed fields) (length fields == 2) (is_named files (name_in fields)) (is_some (instant_in fields)) (is_row_instant (instant_in fields))
      kind.TooManyRows kind.RowTooLong kind.RowQuote kind.RowFields kind.RowZone kind.RowInstant kind.RowRange none in
      two_fields fields (eqb-true (length fields) 2 two)

  -- plain columns come to the same
  pub come_plainly : (most number : ℕ) (row_records : List CsvRecord) (texts : List (List ℕ)) (fault : Option RowKind)
      → RecordsConvertBy layout (alone files) most number row_records texts fault → RecordsConvertTo files most number (fields_of_all row_records) texts fault
  come_plainly most number [] texts fault come = come
  come_plainly most number (row_record ∷ row_records) [] fault come = (come.0 ∙ plain_ends most number row_record, come.1)
  come_plainly most number (row_record ∷ row_records) (text ∷ texts) fault come =
      let sound = sym (plain_ends most number row_record) ∙ come.0 in
      let two = two_of most number row_record.fields sound in
      let written = come.1 in
      let same : text ≡ written.row = written.is ∙ plain_ended written.row in
      let made = subst (λ (b : Bool). IsSoundRow b layout files row_record written.row) (none_kept row_record)
      (subst (λ (o : Option RowKind). IsRowAt layout files o row_record written.row) (plain_fault most number row_record ∙ sound) written.is_row) in
      let row = subst (λ (l : List ℕ). IsTextBy layout files row_record l) (sym same) made in
      (sound, text_plainly row_record two.0 two.1 text two.2 row, come_plainly most (number + 1) row_records texts fault come.2)

  -- and the other way round
  come_by : (most number : ℕ) (row_records : List CsvRecord) (texts : List (List ℕ)) (fault : Option RowKind) → RecordsConvertTo files most number (fields_of_all row_records) texts fault
      → RecordsConvertBy layout (alone files) most number row_records texts fault
  come_by most number [] texts fault come = come
  come_by most number (row_record ∷ row_records) [] fault come = (come.0 ∙ sym (plain_ends most number row_record), come.1)
  come_by most number (row_record ∷ row_records) (text ∷ texts) fault come =
      let two = two_of most number row_record.fields come.0 in
      let row = text_by row_record.own row_record.fields two.0 two.1 text two.2 come.1 in (
        plain_ends most number row_record ∙ come.0,
        record {
          row = text;
          is_row = subst (λ (o : Option RowKind). IsRowAt layout files o row_record text) (sym (plain_fault most number row_record ∙ come.0))
              (subst (λ (b : Bool). IsSoundRow b layout files row_record text) (sym (none_kept row_record)) row);
          is = sym (plain_ended text);
        },
        come_by most (number + 1) row_records texts fault come.2,
      )

fields_after : (row_records : List CsvRecord) → fields_of_all (drop 1 row_records) ≡ drop 1 (fields_of_all row_records)
fields_after [] = refl
fields_after (row_record ∷ row_records) = refl

module _ (read : ColumnRecordsAreRead) (one : RecordsAreOne) (by : By) (files : List File) (column : List ℕ) (texts : List (List ℕ)) (fault : Option RowKind)
    (plain : HasPlainRows by.layout) (is : by.releases ≡ alone files) where
  -- the records of CSV with commas, of the whole column
  plainly_read : records_read by.layout (read_by by.layout column) ≡ csv_records 44 (strip_bom column)
  plainly_read = rw (plain.at_fault, plain.records, plain.delimiter) refl

  rows_are : (row_records : List CsvRecord) → AreRowRecords by.layout column row_records → row_records ≡ drop (records_before by.layout.header) (csv_records 44 (strip_bom column))
  rows_are row_records are = are ∙ ap (drop (records_before by.layout.header)) plainly_read

  -- a column's records, by a reader
  records_are : (records : List (List (List ℕ))) → AreColumnRecords 44 (strip_bom column) records → records ≡ column_records 44 (strip_bom column)
  records_are records are = one 44 (strip_bom column) records (column_records 44 (strip_bom column)) are (read 44 (strip_bom column))

  -- the rows of a column are those of its records after the header, if it has one, without a layout
  plainly : ConvertsBy by column texts fault → RecordsConvertTo files by.most_rows 1 (fields_of_all (drop (records_before by.layout.header) (csv_records 44 (strip_bom column)))) texts fault
  plainly come =
      subst (λ (l : List CsvRecord). RecordsConvertTo files by.most_rows 1 (fields_of_all l) texts fault) (rows_are come.row_records come.are) (come_plainly by.layout plain files by.most_rows 1 come.row_records texts fault
      (subst (λ (r : Releases). RecordsConvertBy by.layout r by.most_rows 1 come.row_records texts fault) is come.rows))

  by_layout : RecordsConvertTo files by.most_rows 1 (fields_of_all (drop (records_before by.layout.header) (csv_records 44 (strip_bom column)))) texts fault → ConvertsBy by column texts fault
  by_layout come =
      let row_records = drop (records_before by.layout.header) (csv_records 44 (strip_bom column)) in
      record { row_records = row_records; are = ap (drop (records_before by.layout.header)) (sym plainly_read); rows = subst (λ (r : Releases). RecordsConvertBy by.layout r by.most_rows 1 row_records texts fault) (sym is) (come_by by.layout plain files by.most_rows 1 row_records texts fault come) }

  without_header : by.layout.header ≡ header.Absent → ConvertsBy by column texts fault ↔ ConvertsTo files by.most_rows column texts fault
  without_header none =
      let bytes = strip_bom column in
      let same : fields_of_all (drop (records_before by.layout.header) (csv_records 44 bytes)) ≡ column_records 44 bytes = rw none (wholes_fields 44 bytes) in (
        λ come. record {
          records = column_records 44 bytes;
          are = read 44 bytes;
          rows = subst (λ (l : List (List (List ℕ))). RecordsConvertTo files by.most_rows 1 l texts fault) same (plainly come);
        },
        λ to.
            let same_records = records_are to.records to.are ∙ sym same in
            by_layout (subst (λ (l : List (List (List ℕ))). RecordsConvertTo files by.most_rows 1 l texts fault) same_records to.rows),
      )

  with_header : records_before by.layout.header ≡ 1 → ConvertsBy by column texts fault ↔ ConvertsBodyTo files by.most_rows column texts fault
  with_header one_before =
      let bytes = strip_bom column in
      let same : fields_of_all (drop (records_before by.layout.header) (csv_records 44 bytes)) ≡ drop 1 (column_records 44 bytes) =
      rw one_before (fields_after (csv_records 44 bytes) ∙ ap (λ (l : List (List (List ℕ))). drop 1 l) (wholes_fields 44 bytes)) in (
        λ come. record {
          records = column_records 44 bytes;
          are = read 44 bytes;
          rows = subst (λ (l : List (List (List ℕ))). RecordsConvertTo files by.most_rows 1 l texts fault) same (plainly come);
        },
        λ to.
            let same_records = ap (λ (l : List (List (List ℕ))). drop 1 l) (records_are to.records to.are) ∙ sym same in
            by_layout (subst (λ (l : List (List (List ℕ))). RecordsConvertTo files by.most_rows 1 l texts fault) same_records to.rows),
      )

-- A column of plain rows converts as it does without a layout.
pub plain_columns : ColumnRecordsAreRead → RecordsAreOne → PlainColumnsConvertAlike
plain_columns read one = record { all = without_header read one; body = with_header read one }
