-- How far a conversion has come.
use Rattle.std.specs.Prelude.{◌≡◌, ◌≤◌, ◌<◌, ◌↔◌, ◌⊎◌, ℕ, Bool, false, List, [], ◌∷◌, ◌++◌, length, drop, take, Option, Some, None, IfSome}
use Rattle.std.specs.List.{concat}
use Rattle.std.specs.Io.KnownBytes.{Appends}
use Rattle.zic_columns.specs.Column.{HasNoLineEnd}
use Rattle.zic_columns.specs.Lines.{records_by}
use Rattle.zic_columns.specs.Own.{CsvRecord, first_text}
use Rattle.zic_columns.specs.Quotes.{is_open}
use Rattle.zic_columns.specs.Round.{ArePiecesOf, BeginsTooLong, ColumnOf, HasNoRecord, IsNextTooLong, Takes, may_have, taken_records, unread}
use Rattle.zic_columns.specs.declared.columns.Taken.{Taken}
use Rattle.zic_columns.specs.declared.columns.Taken.TheVariants as taken
use Rattle.zic_columns.specs.declared.pieces.TheConstants.{MAX_ROUND_PIECES}
use Rattle.zic_counted.specs.Counts.{Counts, HasFailedSince}
use Rattle.zic_counted.specs.Written.{FailsWithin}
use Rattle.zic_files.specs.File.{File}
use Rattle.zic_layouts.specs.Layout.{records_before}
use Rattle.zic_layouts.specs.declared.layout.AtFault.{AtFault}
use Rattle.zic_layouts.specs.declared.layout.AtFault.TheVariants as at
use Rattle.zic_layouts.specs.declared.layout.Header.{Header}
use Rattle.zic_layouts.specs.declared.layout.Header.TheVariants as header
use Rattle.zic_layouts.specs.declared.layout.Layout.{Layout}
use Rattle.zic_layouts.specs.declared.layout.Records.{Records}
use Rattle.zic_layouts.specs.declared.layout.Records.TheVariants as records
use Rattle.zic_layouts.specs.Noted.{RowNote}
use Rattle.zic_base.specs.declared.row_fault.RowKind.{RowKind}
use Rattle.zic_base.specs.declared.row_fault.RowKind.TheVariants as kinds
use Rattle.zic_base.specs.declared.stops.RunStop.{RunStop}
use Rattle.zic_base.specs.declared.stops.RunStop.TheVariants as stop
use Rattle.zic_zones.specs.declared.zones.Releases.{Releases}
use Rattle.zic_convert.specs.By.{By}
use Rattle.zic_convert.specs.Column.{AreRowRecords, header_of, header_read, names_added, own_line, records_read, texts_read}
use Rattle.zic_piece_rows.specs.LayoutRows.{RecordsConvertBy, ended, faults_by}
use Rattle.zic_convert.specs.Header.{IsHeaderFault, fault_read, header_fault}
use Rattle.zic_convert.specs.Run.{EndsAtHeader, EndsIn, Notes, Output, PassesHeader, WritesRows}
use Rattle.zic_convert.specs.code.Written.{EndsInRecords, IsLeft, Numbered, Writing, WritesRecords, numbered}
use Rattle.zic_convert.specs.declared.tally.Tally.{Tally}
use Rattle.zic_convert.specs.declared.halt.Halt.{Halt}
use Rattle.zic_convert.specs.declared.halt.Halt.TheVariants as halt

abbrev pub output : Option (List ℕ) → Option (List ℕ) → Option (List RowNote) → Option (List RowNote) → Output
output held held' log log' = record { held = held; held' = held'; log = log; log' = log' }

-- the records that are left of a column
abbrev pub records_left : Layout → List ℕ → List CsvRecord
records_left layout bytes = records_by layout.records layout.delimiter bytes

-- Where the bytes that are left are known, these records come next.
abbrev pub ComeNext : Layout → Option (List ℕ) → List CsvRecord → Type 0
ComeNext layout left row_records = IfSome left (λ bytes. (more : List CsvRecord) × (records_left layout bytes ≡ row_records ++ more))

abbrev pub tally_of : ℕ → Option ℕ → Tally
tally_of rows left = record { rows = rows; left = left }

-- Of these records some were converted and written, none of which ends the run, and the bytes that are left have the others. This is how many
-- they are, and how many more rows with a fault may come, where there is a limit.
pub record IsSoFar (by : By) (all : List CsvRecord) (left : Option (List ℕ)) (tally : Tally) (out : Output) : Type 0 where
  pub row_records : List CsvRecord
  pub texts : List (List ℕ)
  pub rest : List ℕ
  pub bytes : left ≡ Some rest
  pub goes_on : all ≡ row_records ++ records_left by.layout rest
  pub come : RecordsConvertBy by.layout by.releases by.most_rows 1 row_records texts None
  pub counted : tally.rows ≡ length texts
  pub wrote : Appends out.held out.held' (concat texts)
  pub noted : Notes out.log out.log' (faults_by by.layout by.releases.zones by.most_rows 1 row_records)
  pub few : IsLeft by.max_faults (faults_by by.layout by.releases.zones by.most_rows 1 row_records) tally.left

-- all rows of the bytes that were left, where they are known, were written, there are n, and their faults were noted
abbrev pub ConvertsRest : By → Option (List ℕ) → ℕ → Output → Type 0
ConvertsRest by known n out = IfSome known (λ bytes. WritesRows by [] (records_left by.layout bytes) n out)

-- the conversion of those bytes ended early
abbrev pub EndsInRest : By → Option (List ℕ) → RunStop → Output → Type 0
EndsInRest by known why out = IfSome known (λ bytes. EndsIn by [] (records_left by.layout bytes) why out)

-- all rows of a column were written below its own header
abbrev pub ConvertsColumn : By → Option (List ℕ) → ℕ → Output → Type 0
ConvertsColumn by known n out = IfSome known (λ column. IsHeaderFault by column None
    × (row_records : List CsvRecord) × AreRowRecords by.layout column row_records × WritesRows by (own_line by column) row_records n out)

-- the conversion of that column ended early: at its header, or later
abbrev pub EndsInColumn : By → Option (List ℕ) → RunStop → Output → Type 0
EndsInColumn by known why out = IfSome known (λ column.
    EndsAtHeader by column why [] out
    ⊎ (PassesHeader by column why [] out
    × (row_records : List CsvRecord) × AreRowRecords by.layout column row_records × EndsIn by (own_line by column) row_records why out))

-- the own bytes of the header of a column, by the bytes that are read of it, also where it is skipped; none where it has none
abbrev pub header_passed : Layout → List ℕ → List ℕ
header_passed layout bytes = first_text (take (records_before layout.header) (texts_read layout bytes))

-- the own bytes that are kept of a header
abbrev pub kept_of : Header → List ℕ → List ℕ
kept_of header.Absent own = own
kept_of header.First own = own
kept_of header.Skipped own = []

-- where each line is a record, there is no line end
abbrev pub EndsNoLine : Records → List ℕ → Type 0
EndsNoLine records.Csv own = Unit {0}
EndsNoLine records.Lines own = HasNoLineEnd own

-- the own bytes are those of an open line
abbrev pub is_open_by : Records → ℕ → List ℕ → Bool
is_open_by records.Csv delimiter own = false
is_open_by records.Lines delimiter own = is_open delimiter own

-- some own bytes are those of one record, or of none
pub record AreOfOne (mode : Records) (delimiter : ℕ) (own : List ℕ) : Type 0 where
  pub one : (own ≡ []) ⊎ ((given : CsvRecord) × (records_by mode delimiter own ≡ given ∷ []))
  pub ended : EndsNoLine mode own

-- the fault of a header with these own bytes, or none
abbrev pub IsOwnFault : Layout → List File → List ℕ → Option RowKind → Type 0
IsOwnFault layout files own fault = AreOfOne layout.records layout.delimiter own → fault ≡ header_fault layout files (records_left layout own)

-- The zones got to know the name in the header. Memory was refused, or the header has this fault by all files that rows may be made by.
abbrev pub HaltsAtCheck : {Z : Type 0} → (Z → Z → Type 0) → (Z → Z → Type 0) → (Z → Releases → Type 0) → Z → Z → Layout → List ℕ → Halt → Type 0
HaltsAtCheck grown broken may_be old new layout own halt.Unread = ⊥
HaltsAtCheck grown broken may_be old new layout own (halt.Stop stop.Memory) = grown old new ⊎ broken old new
HaltsAtCheck grown broken may_be old new layout own (halt.Stop (stop.Row row kind)) =
    (row ≡ 0) × grown old new × ((releases : Releases) → may_be new releases → IsOwnFault layout releases.zones own (Some kind))
HaltsAtCheck grown broken may_be old new layout own (halt.Stop _) = ⊥

-- The bytes that are left of a column have its records after those that are a header.
abbrev pub BeginsRows : Layout → List ℕ → Option (List ℕ) → Type 0
BeginsRows layout bytes left = (rest : List ℕ) × (left ≡ Some rest) × (records_left layout rest ≡ drop (records_before layout.header) (records_read layout bytes))

-- the header of a column, where the bytes that are left are known, could not be passed over: the column can't be read on, or it is too long
abbrev pub HaltsAtHeader : Option ℕ → Records → ℕ → Option (List ℕ) → Halt → Type 0
HaltsAtHeader most by delimiter known halt.Unread = Unit {0}
HaltsAtHeader most by delimiter known (halt.Stop (stop.Row row kind)) = (row ≡ 0) × (kind ≡ kinds.RowTooLong) × IsNextTooLong most by delimiter known
HaltsAtHeader most by delimiter known (halt.Stop _) = ⊥

-- a stop at the header of a column, which has too many bytes, where the bytes of the column are known
pub record IsAtLongHeader (layout : Layout) (known : Option (List ℕ)) (why : RunStop) : Type 0 where
  pub is : why ≡ stop.Row 0 kinds.RowTooLong
  pub header : records_before layout.header ≡ 1
  pub long : IfSome known (λ bytes. BeginsTooLong layout.max_record (records_read layout bytes))

-- a column could not be begun: it can't be read on, or its header is too long
abbrev pub HaltsAtBegin : Layout → Option (List ℕ) → Halt → Type 0
HaltsAtBegin layout known halt.Unread = Unit {0}
HaltsAtBegin layout known (halt.Stop (stop.Row row kind)) = IsAtLongHeader layout known (stop.Row row kind)
HaltsAtBegin layout known (halt.Stop _) = ⊥

-- a stop at the header of a column, which has a fault, where the bytes of the column are known
pub record IsAtHeader (by : By) (known : Option (List ℕ)) (why : RunStop) : Type 0 where
  pub kind : RowKind
  pub is : why ≡ stop.Row 0 kind
  pub fault : IfSome known (λ bytes. fault_read by.layout by.releases.zones bytes ≡ Some kind)

-- the conversion of a column, where its bytes are known, ended before its rows began
abbrev pub HaltsAtHead : {W : Type 0} → (W → Option (List ℕ)) → Counts W → Counts W → By → Option (List ℕ) → Halt → Type 0
HaltsAtHead contents old new by known halt.Unread = new ≡ old
HaltsAtHead contents old new by known (halt.Stop stop.Memory) = new ≡ old
HaltsAtHead contents old new by known (halt.Stop stop.WriteFailed) = HasFailedSince new old.failures × IfSome known (λ bytes.
    FailsWithin contents old new (ended by.layout.line_end (header_of by.layout.start (names_added by.layout by.releases.old) (header_read by.layout bytes))) × (fault_read by.layout by.releases.zones bytes ≡ None))
HaltsAtHead contents old new by known (halt.Stop (stop.Row row kind)) = (new ≡ old) × IsAtHeader by known (stop.Row row kind)
HaltsAtHead contents old new by known (halt.Stop _) = ⊥

-- the most bytes that a record may have, where one with more ends the run
abbrev pub end_limit : AtFault → Records → Option ℕ → Option ℕ
end_limit at.End mode most = most
end_limit at.GoOn records.Csv most = most
end_limit at.GoOn records.Lines most = None
end_limit at.Reject records.Csv most = most
end_limit at.Reject records.Lines most = None

abbrev pub longest_of : Layout → Option ℕ
longest_of layout = end_limit layout.at_fault layout.records layout.max_record

-- a column was taken to its next round, in pieces of this number of records, to its next open line, to a record of more bytes than it may have, or
-- to its end
pub record TakesNext {R : Type 0} (remaining : R → Option (List ℕ)) (size : ℕ) (longest : Option ℕ) (old new : ColumnOf R) (next : Taken) : Type 0 where
  pub by : new.by ≡ old.by
  pub delimiter : new.delimiter ≡ old.delimiter
  pub takes : Takes old.by old.delimiter (unread remaining old) (unread remaining new) (taken_records old.delimiter next new.round)
  pub some : next ≡ taken.Round ↔ (0 < length new.round)
  pub end : next ≡ taken.End → HasNoRecord old.by old.delimiter (unread remaining new)
  pub long : next ≡ taken.TooLong → IsNextTooLong longest old.by old.delimiter (unread remaining new)
  pub few : length new.round ≤ MAX_ROUND_PIECES
  pub cut : ArePiecesOf old.delimiter size new.round

-- what was taken of a column, the pieces of a round, and the number of the first record as a row
pub record TakenRows : Type 0 where
  pub first : ℕ
  pub next : Taken
  pub pieces : List (List ℕ)

abbrev pub taken_rows : ℕ → Taken → List (List ℕ) → TakenRows
taken_rows first next pieces = record { first = first; next = next; pieces = pieces }

-- the records that were taken
abbrev pub numbered_by : By → TakenRows → Numbered
numbered_by by rows = numbered rows.first (taken_records by.layout.delimiter rows.next rows.pieces)

-- What was taken was converted: all rows were written, or there was nothing, at the end of the column.
abbrev pub WritesTaken : {W : Type 0} → By → Writing W → TakenRows → Option Tally → Type 0
WritesTaken by w rows None = (rows.next ≡ taken.End) × (w.new ≡ w.old) × (w.log' ≡ w.log)
WritesTaken by w rows (Some tally) = (rows.next ≡ taken.End → ⊥) × (rows.next ≡ taken.TooLong → ⊥) × WritesRecords by w (numbered_by by rows) tally

-- a run that noted nothing ended at a record that has too many bytes, whatever the files are
abbrev pub EndsAtLong : {W : Type 0} → By → Writing W → ℕ → RunStop → Type 0
EndsAtLong by w first why =
    ((releases : Releases) (given : CsvRecord) → may_have (longest_of by.layout) (length given.own) ≡ false
    → EndsInRecords (record by { releases = releases }) (record w { log' = w.log }) (numbered first (given ∷ [])) why)
    × (w.log' ≡ w.log)

-- the run ended in what was taken, or at a record that has too many bytes
abbrev pub EndsAtTaken : {W : Type 0} → By → Writing W → TakenRows → Taken → RunStop → Type 0
EndsAtTaken by w rows taken.End why = ⊥
EndsAtTaken by w rows taken.TooLong why = EndsAtLong by w rows.first why
EndsAtTaken by w rows taken.Round why = EndsInRecords by w (numbered_by by rows) why
EndsAtTaken by w rows (taken.OpenLine line) why = EndsInRecords by w (numbered_by by rows) why

abbrev pub EndsInTaken : {W : Type 0} → By → Writing W → TakenRows → RunStop → Type 0
EndsInTaken by w rows why = EndsAtTaken by w rows rows.next why

-- the column could not be read on, before zones were requested, or memory was refused then
abbrev pub EndsAtTaking : {Z : Type 0} → (Z → Z → Type 0) → Z → Z → Halt → Type 0
EndsAtTaking broken old new halt.Unread = new ≡ old
EndsAtTaking broken old new (halt.Stop stop.Memory) = broken old new
EndsAtTaking broken old new (halt.Stop _) = ⊥
