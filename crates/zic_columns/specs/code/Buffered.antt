-- The buffered bytes.
use Rattle.std.specs.Prelude.{◌≡◌, ◌<◌, ◌≤◌, ◌⊎◌, ℕ, List, [], ◌∷◌, ◌++◌, length, take, drop, Option, None, MatchOption, IfSome}
use Rattle.std.specs.Io.KnownBytes.{IsAtEnd, prepend_known}
use Rattle.csv.specs.declared.parser.State.TheVariants as st
use Rattle.zic_layouts.specs.declared.layout.Records.{Records}
use Rattle.zic_layouts.specs.declared.layout.Records.TheVariants as by
use Rattle.zic_columns.specs.Column.{AreWholeRecords, HasNoLineEnd, HasNoQuote, column_records}
use Rattle.zic_columns.specs.Lines.{open_record, records_by}
use Rattle.zic_columns.specs.code.LineScan.{AllClosed, IsLineScan}
use Rattle.zic_columns.specs.declared.columns.Buffered.{Buffered}
use Rattle.zic_columns.specs.declared.columns.Buffered.TheVariants as buffered
use Rattle.zic_columns.specs.declared.line_scan.OpenLine.{OpenLine}
use Rattle.zic_columns.specs.declared.scan.Scan.{Scan}
use Rattle.zic_columns.specs.declared.scan.Scan.TheVariants as scan
use Rattle.zic_columns.specs.code.Line.{AreWholeLines}
use Rattle.zic_columns.specs.Round.{ColumnOf, IsNextTooLong, with_past}
use Rattle.zic_columns.specs.code.Machine.{BeginsRecord, ReadsTo, state_at}
use Rattle.zic_columns.specs.declared.csv_scan.CsvScan.{CsvScan}
use Rattle.zic_columns.specs.declared.machine.Place.{Place}

-- the first `count` bytes are whole lines without a double quote, and the next byte, if there is
-- one, ends no line
pub record BeginWithLines (bytes : List ℕ) (count : ℕ) : Type 0 where
  pub within : count ≤ length bytes
  pub plain : HasNoQuote (take count bytes)
  pub whole : AreWholeLines (take count bytes)
  pub then : (drop count bytes ≡ []) ⊎ BeginsRecord (drop count bytes)

-- the first `whole` bytes are whole records, and the others none or the first of a record, up to a
-- place in it
pub record IsScanned (delimiter : ℕ) (bytes : List ℕ) (scan : CsvScan) : Type 0 where
  pub within : scan.whole ≤ length bytes
  pub whole : AreWholeRecords delimiter (take scan.whole bytes)
  pub begun : MatchOption scan.begun (drop scan.whole bytes ≡ [])
      (λ place. BeginsRecord (drop scan.whole bytes) × ReadsTo delimiter st.StartField (drop scan.whole bytes) (state_at place))

-- the bytes of the reader, where they are known
abbrev pub to_come : {R : Type 0} → (R → Option (List ℕ)) → ColumnOf R → Option (List ℕ)
to_come remaining column = with_past column.past (remaining column.reader)

-- some records, whatever follows
abbrev pub AreSomeRecords : ℕ → List ℕ → Type 0
AreSomeRecords delimiter bytes = AreWholeRecords delimiter bytes × (0 < length (column_records delimiter bytes))

-- no line is open, where each line is a record
abbrev pub ClosedBy : Records → ℕ → List ℕ → Type 0
ClosedBy by.Csv delimiter bytes = Unit {0}
ClosedBy by.Lines delimiter bytes = AllClosed delimiter bytes

-- The first `count` buffered bytes are some records, or all up to the end of the column. Where each line is a record, none of them is open.
pub record CanBeCut (by : Records) (delimiter : ℕ) (held : List ℕ) (come : Option (List ℕ)) (count : ℕ) : Type 0 where
  pub within : count ≤ length held
  pub closed : ClosedBy by delimiter (take count held)
  pub some : AreSomeRecords delimiter (take count held) ⊎ ((count ≡ length held) × IsAtEnd come)

-- the first buffered line is open
pub record OpensWith (by : Records) (delimiter : ℕ) (held : List ℕ) (come : Option (List ℕ)) (line : OpenLine) : Type 0 where
  pub few : line.own ≤ line.len
  pub within : line.len ≤ length held
  pub opens : IfSome come (λ more. records_by by delimiter (held ++ more) ≡ open_record (take line.own held) ∷ records_by by delimiter (drop line.len held ++ more))

-- what is buffered first, where a record may have this number of bytes of its own
abbrev pub IsBuffered : Option ℕ → Records → ℕ → List ℕ → Option (List ℕ) → Buffered → Type 0
IsBuffered most by delimiter held come (buffered.Records count) = CanBeCut by delimiter held come count
IsBuffered most by delimiter held come (buffered.Line line) = OpensWith by delimiter held come line
IsBuffered most by delimiter held come buffered.TooLong = IsNextTooLong most by delimiter (prepend_known held come)

-- the mode of a scan
abbrev pub mode_of : Scan → Records
mode_of (scan.Csv found) = by.Csv
mode_of (scan.Lines found) = by.Lines

-- what was scanned
abbrev pub IsScannedBy : ℕ → List ℕ → Scan → Type 0
IsScannedBy delimiter bytes (scan.Csv found) = IsScanned delimiter bytes found
IsScannedBy delimiter bytes (scan.Lines found) = IsLineScan delimiter bytes found

-- the number of bytes in whole records
abbrev pub whole_of_scan : Scan → ℕ
whole_of_scan (scan.Csv found) = found.whole
whole_of_scan (scan.Lines found) = found.whole

-- the open line after them
abbrev pub open_of_scan : Scan → Option OpenLine
open_of_scan (scan.Csv found) = None
open_of_scan (scan.Lines found) = found.opened

-- no byte, or the first of a record, up to a place in it
abbrev pub AreBegun : ℕ → List ℕ → Type 0
AreBegun delimiter bytes = (bytes ≡ []) ⊎ ((place : Place) × BeginsRecord bytes × ReadsTo delimiter st.StartField bytes (state_at place))

-- no record ends in the bytes; where each line is a record, no line does
abbrev pub UnendedBy : Records → ℕ → List ℕ → Type 0
UnendedBy by.Csv delimiter bytes = AreBegun delimiter bytes
UnendedBy by.Lines delimiter bytes = HasNoLineEnd bytes
