-- Laws about the records of a column.
use Rattle.std.specs.Prelude.{◌≡◌, ◌<◌, ℕ, true, false, List, [], ◌∷◌, ◌++◌, All, Some, length, map, take}
use Rattle.zic_columns.specs.Column.{AreColumnRecords, AreWholeRecords, CanDelimit, HasNoLineEnd, HasNoQuote, IsBeforeRecord, column_records, ends_line, lines_of, plain_records}
use Rattle.zic_columns.specs.Ends.{AreBetweenEnds, BeginsWithin}
use Rattle.zic_columns.specs.Lines.{line_records, open_record, records_by, texts_by}
use Rattle.zic_columns.specs.Own.{CsvRecord, csv_records, first_text, own_texts}
use Rattle.zic_columns.specs.Quotes.{IsRfcField, delimited, has_stray, is_open}
use Rattle.zic_columns.specs.Raw.{raw_fields}
use Rattle.zic_columns.specs.Record.{own_record}
use Rattle.zic_columns.specs.Round.{records_of, records_of_pieces}
use Rattle.zic_columns.specs.Truncated.{truncated}
use Rattle.zic_layouts.specs.declared.layout.Records.{Records}

-- a CSV reader gives bytes these records
abbrev pub ColumnRecordsAreRead : Type 0
ColumnRecordsAreRead = (delimiter : ℕ) (bytes : List ℕ) → AreColumnRecords delimiter bytes (column_records delimiter bytes)

-- a CSV reader gives bytes one list of records
abbrev pub RecordsAreOne : Type 0
RecordsAreOne =
    (delimiter : ℕ) (bytes : List ℕ) (a b : List (List (List ℕ))) → AreColumnRecords delimiter bytes a → AreColumnRecords delimiter bytes b → a ≡ b

-- bytes without a double quote have their plain records
abbrev pub PlainRecordsAreRead : Type 0
PlainRecordsAreRead = (delimiter : ℕ) (bytes : List ℕ) → CanDelimit delimiter → HasNoQuote bytes → column_records delimiter bytes ≡ plain_records delimiter bytes

-- Wherever a CSV reader stands before a record, the records of the whole are those before and
-- those after.
abbrev pub RecordsAreCut : Type 0
RecordsAreCut = (delimiter : ℕ) (bytes : List ℕ) → CanDelimit delimiter → IsBeforeRecord delimiter bytes → AreWholeRecords delimiter bytes

-- Each record has its own bytes: there are as many of both.
abbrev pub OwnTextsAreOfRecords : Type 0
OwnTextsAreOfRecords = (delimiter : ℕ) (bytes : List ℕ)
    → (map (λ (w : CsvRecord). w.own) (csv_records delimiter bytes) ≡ own_texts delimiter bytes)
    × (map (λ (w : CsvRecord). w.fields) (csv_records delimiter bytes) ≡ column_records delimiter bytes)

-- Whatever follows whole records, its records with their own bytes come after theirs.
abbrev pub WholeRecordsAreCut : Type 0
WholeRecordsAreCut = (delimiter : ℕ) (bytes rest : List ℕ) → CanDelimit delimiter → AreWholeRecords delimiter bytes
    → csv_records delimiter (bytes ++ rest) ≡ csv_records delimiter bytes ++ csv_records delimiter rest

-- The records of pieces with their own bytes have the fields of the records of the pieces.
abbrev pub PiecesHaveRecords : Type 0
PiecesHaveRecords = (delimiter : ℕ) (pieces : List (List ℕ))
    → map (λ (w : CsvRecord). w.fields) (records_of_pieces delimiter pieces) ≡ records_of delimiter pieces

-- Each record's own bytes alone are that record.
abbrev pub OwnBytesAreRecords : Type 0
OwnBytesAreRecords = (delimiter : ℕ) (bytes : List ℕ) → CanDelimit delimiter
    → All (λ (w : CsvRecord). column_records delimiter w.own ≡ w.fields ∷ []) (csv_records delimiter bytes)

-- Own bytes have no line end around them: each record's begin with another byte, and with a letter added they are still one record, which
-- they aren't after a line end.
abbrev pub OwnBytesAreTrimmed : Type 0
OwnBytesAreTrimmed = (delimiter : ℕ) (bytes : List ℕ) → CanDelimit delimiter
    → All (λ own. BeginsWithin own × (length (column_records delimiter (own ++ 120 ∷ [])) ≡ 1)) (own_texts delimiter bytes)

-- So the records of a column are those of their own bytes, each by itself.
abbrev pub RecordsAreOfOwnBytes : Type 0
RecordsAreOfOwnBytes = (delimiter : ℕ) (bytes : List ℕ) → CanDelimit delimiter → csv_records delimiter bytes ≡ map (own_record delimiter) (own_texts delimiter bytes)

-- A column is the own bytes of its records, in order, and line ends; nothing else.
abbrev pub ColumnIsOwnBytes : Type 0
ColumnIsOwnBytes = (delimiter : ℕ) (bytes : List ℕ) → CanDelimit delimiter → AreBetweenEnds (own_texts delimiter bytes) bytes

-- Without a double quote the records are the same whether each line is one or not.
abbrev pub LinesWithoutQuotesAreCsv : Type 0
LinesWithoutQuotesAreCsv = (delimiter : ℕ) (bytes : List ℕ) → CanDelimit delimiter → HasNoQuote bytes → line_records delimiter bytes ≡ csv_records delimiter bytes

-- Where each line is a record, a column can be cut after any line end: its records are those of its parts.
abbrev pub LinesAreCut : Type 0
LinesAreCut = (delimiter : ℕ) (lines rest : List ℕ) (end : ℕ) → ends_line end ≡ true
    → line_records delimiter ((lines ++ end ∷ []) ++ rest) ≡ line_records delimiter (lines ++ end ∷ []) ++ line_records delimiter rest

-- Where lines are truncated to this number of bytes, one or more, the lines are the first bytes of each, up to this number.
abbrev pub LinesAreTruncated : Type 0
LinesAreTruncated = (most : ℕ) (bytes : List ℕ) → 0 < most → lines_of (truncated (Some most) bytes) ≡ map (take most) (lines_of bytes)

-- Wherever records end, each has its own bytes.
abbrev pub TextsByAreOfRecords : Type 0
TextsByAreOfRecords = (by : Records) (delimiter : ℕ) (bytes : List ℕ)
    → map (λ (w : CsvRecord). w.own) (records_by by delimiter bytes) ≡ texts_by by delimiter bytes

-- Bytes without a double quote have no stray one.
abbrev pub PlainBytesHaveNoStray : Type 0
PlainBytesHaveNoStray = (delimiter : ℕ) (own : List ℕ) → CanDelimit delimiter → HasNoQuote own → has_stray delimiter own ≡ false

-- The own bytes of a record as RFC 4180 has it have no stray double quote.
abbrev pub RfcRecordsHaveNoStray : Type 0
RfcRecordsHaveNoStray = (delimiter : ℕ) (fields : List (List ℕ)) → CanDelimit delimiter → All (IsRfcField delimiter) fields → has_stray delimiter (delimited delimiter fields) ≡ false

-- The own bytes of the first record, by themselves, are that record alone. A line has no line end. By itself it is what a CSV reader makes of
-- it, or, where it is open, a record without fields.
pub record FirstRecordIsAlone : Type 0 where
  pub same : (by : Records) (delimiter : ℕ) (bytes : List ℕ) → CanDelimit delimiter
      → records_by by delimiter (first_text (texts_by by delimiter bytes)) ≡ take 1 (records_by by delimiter bytes)
  pub ended : (bytes : List ℕ) → HasNoLineEnd (first_text (lines_of bytes))
  pub closed : (delimiter : ℕ) (line : List ℕ) → CanDelimit delimiter → HasNoLineEnd line → is_open delimiter line ≡ false → line_records delimiter line ≡ csv_records delimiter line
  pub opened : (delimiter : ℕ) (line : List ℕ) → CanDelimit delimiter → HasNoLineEnd line → is_open delimiter line ≡ true → line_records delimiter line ≡ open_record line ∷ []

-- The raw fields of own bytes, with a delimiter between each two, are these bytes.
abbrev pub RawFieldsAreOwnBytes : Type 0
RawFieldsAreOwnBytes = (delimiter : ℕ) (own : List ℕ) → delimited delimiter (raw_fields delimiter own) ≡ own

-- Each record has as many raw fields as fields.
abbrev pub RawFieldsAreOfFields : Type 0
RawFieldsAreOfFields = (delimiter : ℕ) (bytes : List ℕ) → CanDelimit delimiter
    → All (λ (w : CsvRecord). length (raw_fields delimiter w.own) ≡ length w.fields) (csv_records delimiter bytes)
