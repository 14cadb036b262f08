-- The rows of a column's records, by a layout: own choice. A record has an instant or a local time, and perhaps a zone's name. Its row has the
-- text of what the file of that name answers at the instant, or a fault. A row with a fault ends the run, or is written without an answer, or
-- isn't written, and its record is rejected. An empty time is a fault, or gives a row without an answer. Where rows are compared with another
-- release, only those are written that it answers differently, with its answer at the end.
use Rattle.std.specs.Prelude.{◌≡◌, ℕ, ◌+◌, nat_le, nat_lt, ℤ, pos, ◌+ℤ◌, ◌*ℤ◌, List, [], ◌∷◌, ◌++◌, length, replicate, take, drop, Option, Some, None, Result, Ok, Err, option_map, is_some, IsSome, Contains, slice_get, slice_index_or, codes, Bool, true, false, not, ◌&&◌, ◌||◌, if◌then◌else◌}
use Rattle.std.specs.Fmt.{signed_decimal}
use Rattle.csv.specs.Writing.{default_writer, row_text, with_delimiter}
use Rattle.zic_base.specs.Check.{Check, first_failed}
use Rattle.zic_base.specs.State.{Shown}
use Rattle.zic_tzif.specs.Answer.{Answers}
use Rattle.zic_row_text.specs.Count.{count_of, fraction_of, local_count_text, second_of, units_of_second}
use Rattle.zic_row_text.specs.DateTime.{local_count_of, text_count_of}
use Rattle.zic_row_text.specs.Fields.{field_text, fields_text}
use Rattle.zic_local.specs.declared.local_time.Unresolved.{Unresolved}
use Rattle.zic_local.specs.declared.local_time.Unresolved.TheVariants as unresolved
use Rattle.zic_columns.specs.Own.{CsvRecord}
use Rattle.zic_columns.specs.Quotes.{has_stray}
use Rattle.zic_columns.specs.Raw.{replaced}
use Rattle.zic_columns.specs.Round.{may_have}
use Rattle.zic_files.specs.File.{File}
use Rattle.zic_layouts.specs.Layout.{has_count}
use Rattle.zic_layouts.specs.declared.layout.AtFault.{AtFault}
use Rattle.zic_layouts.specs.declared.layout.AtFault.TheVariants as at
use Rattle.zic_layouts.specs.declared.disambiguation.Disambiguation.TheVariants as disambiguation
use Rattle.zic_layouts.specs.declared.layout.EmptyTime.{EmptyTime}
use Rattle.zic_layouts.specs.declared.layout.EmptyTime.TheVariants as empty
use Rattle.zic_layouts.specs.declared.layout.Layout.{Layout}
use Rattle.zic_layouts.specs.declared.layout.LineEnd.{LineEnd}
use Rattle.zic_layouts.specs.declared.layout.LineEnd.TheVariants as line_end
use Rattle.zic_layouts.specs.declared.layout.Quotes.{Quotes}
use Rattle.zic_layouts.specs.declared.layout.Quotes.TheVariants as quotes
use Rattle.zic_layouts.specs.declared.layout.Records.{Records}
use Rattle.zic_layouts.specs.declared.layout.Records.TheVariants as by
use Rattle.zic_layouts.specs.declared.layout.RowStart.{RowStart}
use Rattle.zic_layouts.specs.declared.layout.RowStart.TheVariants as start
use Rattle.zic_layouts.specs.declared.layout.TimeFrom.{TimeFrom}
use Rattle.zic_layouts.specs.declared.layout.TimeFrom.TheVariants as from
use Rattle.zic_layouts.specs.declared.layout.Unit.{Unit}
use Rattle.zic_layouts.specs.RowField.{compared_of, fields_of}
use Rattle.zic_layouts.specs.declared.row_field.RowField.{RowField}
use Rattle.zic_layouts.specs.declared.row_field.RowField.TheVariants as row_field
use Rattle.zic_layouts.specs.Noted.{RowNote}
use Rattle.zic_base.specs.declared.row_fault.RowKind.{RowKind}
use Rattle.zic_base.specs.declared.row_fault.RowKind.TheVariants as kind
use Rattle.zic_zones.specs.Resolved.{resolved}
use Rattle.zic_zones.specs.Zones.{field_at, is_named, number_of, zone_in}
use Rattle.zic_zones.specs.declared.zones.Releases.{Releases}
use Rattle.zic_piece_rows.specs.Rows.{is_closed, is_row_instant, row_checks}

-- the count that a field has: of an instant, in decimals or as a text, or of a local time
abbrev pub count_by : TimeFrom → Unit → List ℕ → Option ℤ
count_by from.Count u field = count_of u field
count_by (from.Text form) u field = text_count_of form u field
count_by (from.Local choice) u field = local_count_of u field

-- the count that the field of the instant has, or of the local time
abbrev pub count_in : Layout → List (List ℕ) → Option ℤ
count_in layout fields = count_by layout.from layout.unit (field_at fields layout.time)

-- the fault of a field that has none
abbrev pub missing : TimeFrom → RowKind
missing from.Count = kind.RowInstant
missing (from.Text form) = kind.RowInstant
missing (from.Local choice) = kind.RowLocal

-- The count of the instant that is meant by a local time, with its fraction of a second, or the fault of a row that means none: in a gap, or in
-- a fold. A file that rows are made by leaves local time open nowhere.
abbrev pub moved : Unit → ℤ → Result ℤ Unresolved → Result ℤ RowKind
moved u local (Ok t) = Ok ((t *ℤ pos (units_of_second u)) +ℤ pos (fraction_of u local))
moved u local (Err unresolved.Gap) = Err kind.RowSkipped
moved u local (Err unresolved.Fold) = Err kind.RowRepeated
moved u local (Err unresolved.Unspecified) = Err kind.RowSkipped

-- the count of the instant that a count in a field means: itself, or what it means as local time of the file's clocks
abbrev pub instant_by : TimeFrom → Unit → File → ℤ → Result ℤ RowKind
instant_by from.Count u file count = Ok count
instant_by (from.Text form) u file count = Ok count
instant_by (from.Local choice) u file local = moved u local (resolved file.image.octets (second_of u local) choice)

-- the file with this number, and the file of a name, where there is one
abbrev pub file_at : List File → Option ℕ → Option File
file_at files None = None
file_at files (Some n) = slice_get files n

abbrev pub file_named : List File → List ℕ → Option File
file_named files name = file_at files (number_of files name)

-- The count of a record's instant, by the file of its zone and the count in its field, or the fault of a record that has none. Without a
-- file the count stands for itself: the check of the zone comes first, and gives RowZone.
abbrev pub time_by : Layout → Option File → Option ℤ → Result ℤ RowKind
time_by layout file None = Err (missing layout.from)
time_by layout None (Some count) = Ok count
time_by layout (Some file) (Some count) = instant_by layout.from layout.unit file count

abbrev pub time_in : Layout → List File → List (List ℕ) → Result ℤ RowKind
time_in layout files fields = time_by layout (file_named files (zone_in layout.zone fields)) (count_in layout fields)

-- the count of an instant, where there is one, and else the fault
abbrev pub ok_count : Result ℤ RowKind → Option ℤ
ok_count (Ok count) = Some count
ok_count (Err fault) = None

abbrev pub err_fault : Result ℤ RowKind → RowKind
err_fault (Ok count) = kind.RowInstant
err_fault (Err fault) = fault

-- a record may have a stray double quote, or has none
abbrev pub admits_stray : Quotes → Bool → Bool
admits_stray quotes.Strict stray = not stray
admits_stray quotes.Lenient stray = true

-- the double quotes of a record with this delimiter are as they must be: it isn't an open line, and its own bytes may be stray, or aren't
abbrev pub has_right_quotes : Quotes → ℕ → CsvRecord → Bool
has_right_quotes by delimiter row_record = is_closed row_record.fields && admits_stray by (has_stray delimiter row_record.own)

-- an empty field that is kept
abbrev pub is_kept : EmptyTime → List ℕ → Bool
is_kept empty.Fault field = false
is_kept empty.Keep [] = true
is_kept empty.Keep (byte ∷ field) = false

-- the time of a record is an empty field that is kept
abbrev pub keeps : Layout → CsvRecord → Bool
keeps layout row_record = is_kept layout.empty (field_at row_record.fields layout.time)

-- The checks of a record with this delimiter and this time as the row of a number, where there is a greatest number of rows. An empty time that
-- is kept passes those of the time.
abbrev pub checks_of : Layout → List File → ℕ → ℕ → ℕ → CsvRecord → Result ℤ RowKind → List (Check RowKind)
checks_of layout files most number delimiter row_record time =
    row_checks (nat_le number most) (may_have layout.max_record (length row_record.own)) (has_right_quotes layout.quotes delimiter row_record) (has_count layout.count (length row_record.fields))
    (is_named files (zone_in layout.zone row_record.fields)) (keeps layout row_record || is_some (ok_count time)) (err_fault time)
    (keeps layout row_record || is_row_instant (option_map (second_of layout.unit) (ok_count time)))

-- the checks of a record
abbrev pub checks_by : Layout → List File → ℕ → ℕ → CsvRecord → List (Check RowKind)
checks_by layout files most number row_record = checks_of layout files most number layout.delimiter row_record (time_in layout files row_record.fields)

-- the fault of a row: of the first check that fails, or none
abbrev pub fault_by : Layout → List File → ℕ → ℕ → CsvRecord → Option RowKind
fault_by layout files most number row_record = first_failed (checks_by layout files most number row_record)

-- the text of the count in a field: its decimals, or the local time
abbrev pub input_text : TimeFrom → Unit → ℤ → List ℕ
input_text from.Count u count = signed_decimal count
input_text (from.Text form) u count = signed_decimal count
input_text (from.Local choice) u local = local_count_text u local

-- a record as a CSV writer has it: two double quotes in the place of no byte, since a line without a byte is no record
abbrev pub or_quotes : List ℕ → List ℕ
or_quotes [] = 34 ∷ 34 ∷ []
or_quotes (byte ∷ own) = byte ∷ own

-- What a row begins with: the name, the delimiter and that text, or the record's own bytes, as they are or with a field in the place of the
-- raw field of the time.
abbrev pub beginning : RowStart → ℕ → ℕ → List ℕ → List ℕ → List ℕ → List ℕ → List ℕ
beginning start.Fields delimiter index own name input field = name ++ delimiter ∷ input
beginning start.Record delimiter index own name input field = own
beginning start.Replaced delimiter index own name input field = or_quotes (replaced delimiter own index field)

-- by a layout, for the zone's name, the count in the record's field, and the text of the first of the row's fields
abbrev pub start_text : Layout → List ℕ → List ℕ → ℤ → List ℕ → List ℕ
start_text layout own name count field = beginning layout.start layout.delimiter layout.time own name (input_text layout.from layout.unit count) field

-- the fields that follow: all, but that the first stands in the place of the time's, where rows begin so
abbrev pub following : {a : Type 0} → RowStart → List a → List a
following start.Fields fields = fields
following start.Record fields = fields
following start.Replaced fields = drop 1 fields

-- `gap` or `fold`, where a local time is in one by the clocks of a file, or no text
abbrev pub place_of : Result ℤ Unresolved → List ℕ
place_of (Ok t) = []
place_of (Err unresolved.Gap) = codes "gap"
place_of (Err unresolved.Fold) = codes "fold"
place_of (Err unresolved.Unspecified) = []

-- the same for the count in a record's field, and no text for an instant
abbrev pub place_by : TimeFrom → Unit → File → ℤ → List ℕ
place_by from.Count u file count = []
place_by (from.Text form) u file count = []
place_by (from.Local choice) u file local = place_of (resolved file.image.octets (second_of u local) disambiguation.Reject)

-- the text of a field, by the zone's file, the count in the record's field, the count of its instant, and the state then
abbrev pub field_by : Layout → RowField → File → ℤ → ℤ → Shown → List ℕ
field_by layout f file input count state = field_text f layout.unit count state (place_by layout.from layout.unit file input)

-- the text of these fields, by the zone's file, the count in the record's field, the count of its instant, and the state then
abbrev pub fields_by : Layout → List RowField → File → ℤ → ℤ → Shown → List ℕ
fields_by layout fields file input count state = fields_text layout.delimiter fields layout.unit count state (place_by layout.from layout.unit file input)

-- the fields of a layout's rows, those that follow what a row begins with, and the first of all: no list of fields is empty
abbrev pub row_fields : Layout → List RowField
row_fields layout = fields_of layout.fields layout.from

abbrev pub following_fields : Layout → List RowField
following_fields layout = following layout.start (row_fields layout)

abbrev pub first_field : Layout → RowField
first_field layout = slice_index_or (row_fields layout) 0 row_field.Local

-- Files answer a record: the one of its zone's name shows a state at the whole second of the instant's count.
pub record HasAnswer (layout : Layout) (files : List File) (row_record : CsvRecord) : Type 0 where
  pub file : File
  pub among : Contains files file
  pub named : file.name ≡ zone_in layout.zone row_record.fields
  pub input : ℤ
  pub says : count_in layout row_record.fields ≡ Some input
  pub count : ℤ
  pub means : instant_by layout.from layout.unit file input ≡ Ok count
  pub state : Shown
  pub answers : Answers file.image.content (second_of layout.unit count) (Some state)

-- The text of a record's row: what rows begin with, and what files answer. No name of a file and no field that a row adds to a record has the
-- delimiter.
pub record IsTextBy (layout : Layout) (files : List File) (row_record : CsvRecord) (text : List ℕ) : Type 0 where
  pub has : HasAnswer layout files row_record
  pub is : text
      ≡ start_text layout row_record.own has.file.name has.input (field_by layout (first_field layout) has.file has.input has.count has.state)
      ++ fields_by layout (following_fields layout) has.file has.input has.count has.state

-- an empty field for each of these, and the end of a row
abbrev pub empty_fields : ℕ → List RowField → List ℕ
empty_fields d fields = replicate (length fields) d ++ 10 ∷ []

-- a record's own bytes, with an empty field in the place of the raw field of an index, if it has one
abbrev pub emptied : ℕ → CsvRecord → ℕ → List ℕ
emptied delimiter row_record index = if nat_lt index (length row_record.fields) then replaced delimiter row_record.own index [] else row_record.own

-- The text of a row without what a file answers, whose fields are empty. Where rows begin with names, it is what a CSV writer with the
-- layout's delimiter writes of the zone's name, the field of the instant or of the local time as it was read, and these. Where they begin with
-- their records, it is the record's own bytes, or these with an empty field in the place of the time's, if it has that, and then empty fields.
abbrev pub timeless_text : RowStart → Layout → CsvRecord → List ℕ
timeless_text start.Fields layout row_record =
    row_text (with_delimiter default_writer layout.delimiter) (zone_in layout.zone row_record.fields ∷ field_at row_record.fields layout.time ∷ replicate (length (row_fields layout)) [])
timeless_text start.Record layout row_record = row_record.own ++ empty_fields layout.delimiter (row_fields layout)
timeless_text start.Replaced layout row_record = or_quotes (emptied layout.delimiter row_record layout.time) ++ empty_fields layout.delimiter (drop 1 (row_fields layout))

-- The text of a row with a fault that is written: one without an answer, or, of a record with too many bytes, an open line, or a record
-- with another number of fields than the layout's, the record's own bytes alone.
abbrev pub marked_text : Layout → RowKind → CsvRecord → List ℕ
marked_text layout kind.RowTooLong row_record = row_record.own ++ 10 ∷ []
marked_text layout kind.RowFields row_record = row_record.own ++ 10 ∷ []
marked_text layout kind.RowQuote row_record = row_record.own ++ 10 ∷ []
marked_text layout _ row_record = timeless_text layout.start layout row_record

-- these bytes, where a record with a fault is not rejected, and else none
abbrev pub unless_rejected : AtFault → List ℕ → List ℕ
unless_rejected at.End bytes = bytes
unless_rejected at.GoOn bytes = bytes
unless_rejected at.Reject bytes = []

-- these bytes, where it is, and else none
abbrev pub if_rejected : AtFault → List ℕ → List ℕ
if_rejected at.End bytes = []
if_rejected at.GoOn bytes = []
if_rejected at.Reject bytes = bytes

-- what a row with a fault adds to the text of rows: nothing, where its record is rejected
abbrev pub faulty_text : Layout → RowKind → CsvRecord → List ℕ
faulty_text layout kind row_record = unless_rejected layout.at_fault (marked_text layout kind row_record)

-- The fault that ends a run: any, or only that of a record that is one too many, or of one of CSV that has too many bytes. Where each line
-- is a record, one with too many bytes is a row with a fault as any other.
abbrev pub ending : AtFault → Records → Option RowKind → Option RowKind
ending at.End mode fault = fault
ending at.GoOn mode None = None
ending at.GoOn mode (Some kind.TooManyRows) = Some kind.TooManyRows
ending at.GoOn by.Csv (Some kind.RowTooLong) = Some kind.RowTooLong
ending at.GoOn mode (Some _) = None
ending at.Reject mode None = None
ending at.Reject mode (Some kind.TooManyRows) = Some kind.TooManyRows
ending at.Reject by.Csv (Some kind.RowTooLong) = Some kind.RowTooLong
ending at.Reject mode (Some _) = None

-- the fault that ends a run at the row of a record, or none
abbrev pub ends_by : Layout → List File → ℕ → ℕ → CsvRecord → Option RowKind
ends_by layout files most number row_record = ending layout.at_fault layout.records (fault_by layout files most number row_record)

-- the row of a record without a fault: with what files answer it, or without that, where its time is empty and kept
abbrev pub IsSoundRow : Bool → Layout → List File → CsvRecord → List ℕ → Type 0
IsSoundRow false layout files row_record text = IsTextBy layout files row_record text
IsSoundRow true layout files row_record text = text ≡ timeless_text layout.start layout row_record

-- the row of a record, which has this fault or none
abbrev pub IsRowAt : Layout → List File → Option RowKind → CsvRecord → List ℕ → Type 0
IsRowAt layout files None row_record text = IsSoundRow (keeps layout row_record) layout files row_record text
IsRowAt layout files (Some kind) row_record text = text ≡ faulty_text layout kind row_record

-- the row of a record, as the row of a number
abbrev pub IsRowBy : Layout → List File → ℕ → ℕ → CsvRecord → List ℕ → Type 0
IsRowBy layout files most number row_record text = IsRowAt layout files (fault_by layout files most number row_record) row_record text

-- what files answer a record, as these fields
pub record IsAnswerBy (layout : Layout) (fields : List RowField) (files : List File) (row_record : CsvRecord) (answer : List ℕ) : Type 0 where
  pub has : HasAnswer layout files row_record
  pub is : answer ≡ fields_by layout fields has.file has.input has.count has.state

-- what they answer a record without a fault, or this text, where its time is empty and kept
abbrev pub IsSoundAnswer : Bool → Layout → List RowField → List ℕ → List File → CsvRecord → List ℕ → Type 0
IsSoundAnswer false layout fields without files row_record answer = IsAnswerBy layout fields files row_record answer
IsSoundAnswer true layout fields without files row_record answer = answer ≡ without

-- what they answer a record that has this fault as a row, or none; with a fault this text
abbrev pub IsAnswerAt : Layout → List RowField → List ℕ → List File → Option RowKind → CsvRecord → List ℕ → Type 0
IsAnswerAt layout fields without files None row_record answer = IsSoundAnswer (keeps layout row_record) layout fields without files row_record answer
IsAnswerAt layout fields without files (Some kind) row_record answer = answer ≡ without

-- What they answer a record, as the row of a number: the text of these fields, or another, where they answer nothing.
abbrev pub IsAnswer : Layout → List RowField → List ℕ → List File → ℕ → ℕ → CsvRecord → List ℕ → Type 0
IsAnswer layout fields without files most number row_record answer = IsAnswerAt layout fields without files (fault_by layout files most number row_record) row_record answer

-- what of it is compared, where two releases are: no text where they answer nothing, which no fields have
abbrev pub IsSeen : Layout → List File → ℕ → ℕ → CsvRecord → List ℕ → Type 0
IsSeen layout files most number row_record seen = IsAnswer layout (compared_of layout.compared (row_fields layout)) [] files most number row_record seen

-- a row without its last byte, the line feed, and then an answer or a line end; no row stays no row
abbrev pub with_answer : List ℕ → List ℕ → List ℕ
with_answer [] answer = []
with_answer (byte ∷ row) answer = take (length row) (byte ∷ row) ++ answer

-- The row of a record that is written only if another release answers the record differently, as far as that is compared. It is the row by
-- the first release, and at its end stands what the other answers: empty fields, where it answers nothing.
pub record IsMovedRow (layout : Layout) (files old : List File) (most number : ℕ) (row_record : CsvRecord) (text : List ℕ) : Type 0 where
  pub row : List ℕ
  pub is_row : IsRowBy layout files most number row_record row
  pub seen : List ℕ
  pub is_seen : IsSeen layout files most number row_record seen
  pub old_seen : List ℕ
  pub is_old_seen : IsSeen layout old most number row_record old_seen
  pub old_answer : List ℕ
  pub is_old_answer : IsAnswer layout (row_fields layout) (empty_fields layout.delimiter (row_fields layout)) old most number row_record old_answer
  pub same : seen ≡ old_seen → text ≡ []
  pub moved : (seen ≡ old_seen → ⊥) → text ≡ with_answer row old_answer

-- a line with this line end in the place of its line feed; no line stays no line
abbrev pub ended : LineEnd → List ℕ → List ℕ
ended line_end.Lf line = line
ended line_end.CrLf line = with_answer line (13 ∷ 10 ∷ [])

-- what is written of a record, as the row of a number: its row, or, where there is another release, its row only if that answers differently
abbrev pub IsWrittenWith : Option (List File) → Layout → List File → ℕ → ℕ → CsvRecord → List ℕ → Type 0
IsWrittenWith None layout files most number row_record text = IsRowBy layout files most number row_record text
IsWrittenWith (Some old) layout files most number row_record text = IsMovedRow layout files old most number row_record text

-- that, with the line end of the layout's rows
pub record IsWrittenBy (layout : Layout) (releases : Releases) (most number : ℕ) (row_record : CsvRecord) (text : List ℕ) : Type 0 where
  pub row : List ℕ
  pub is_row : IsWrittenWith releases.old layout releases.zones most number row_record row
  pub is : text ≡ ended layout.line_end row

-- The outcome of records, the first of which is the row of this number: the texts of the rows up to the first that ends the run, and its
-- fault, or none. The faults are those of rows by the first release.
abbrev pub RecordsConvertBy : Layout → Releases → ℕ → ℕ → List CsvRecord → List (List ℕ) → Option RowKind → Type 0
RecordsConvertBy layout releases most number [] texts fault = (texts ≡ []) × (fault ≡ None)
RecordsConvertBy layout releases most number (row_record ∷ row_records) [] fault = (fault ≡ ends_by layout releases.zones most number row_record) × IsSome fault
RecordsConvertBy layout releases most number (row_record ∷ row_records) (text ∷ texts) fault =
    (ends_by layout releases.zones most number row_record ≡ None) × IsWrittenBy layout releases most number row_record text × RecordsConvertBy layout releases most (number + 1) row_records texts fault

-- what is noted of the record with these own bytes as the row of a number: its fault, if it has one, and the bytes, where it is rejected
abbrev pub noted : AtFault → ℕ → List ℕ → Option RowKind → List RowNote
noted at_fault number own None = []
noted at_fault number own (Some kind) = record { fault = record { row = number; kind = kind }; own = if_rejected at_fault own } ∷ []

-- what is noted of records, the first of which is the row of this number, up to the row that ends the run
abbrev pub faults_by : Layout → List File → ℕ → ℕ → List CsvRecord → List RowNote
faults_by layout files most number [] = []
faults_by layout files most number (row_record ∷ row_records) =
    if is_some (ends_by layout files most number row_record) then []
    else noted layout.at_fault number row_record.own (fault_by layout files most number row_record) ++ faults_by layout files most (number + 1) row_records
