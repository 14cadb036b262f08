-- The messages of failures.
use Rattle.std.specs.Prelude.{ℕ, codes, List, ◌++◌, string_bytes, ◌==◌, if◌then◌else◌}
use Rattle.std.specs.Fmt.{decimal}
use Rattle.zic_base.specs.Fault.{kind_word}
use Rattle.zic_tzif.specs.Reason.{reason_word}
use Rattle.zic_base.specs.RowFault.{row_kind_word}
use Rattle.zic_io.specs.declared.failure.Failure.{Failure}
use Rattle.zic_io.specs.declared.failure.Failure.TheVariants as failures

-- how many rows have faults
abbrev pub count_words : ℕ → List ℕ
count_words count = if count == 1 then codes "1 row with a fault" else decimal count ++ codes " rows with faults"

-- the line that the program prints for a failure
abbrev pub failure_text : Failure → List ℕ
failure_text (failures.Line line kind) =
    codes "line " ++ decimal line ++ codes ": " ++ kind_word kind
failure_text (failures.TextLine text line kind) =
    codes "text " ++ decimal text ++ codes " line " ++ decimal line ++ codes ": " ++ kind_word kind
failure_text (failures.Row row kind) =
    codes "row " ++ decimal row ++ codes ": " ++ row_kind_word kind
failure_text (failures.Rows row kind count) =
    codes "row " ++ (decimal row ++ (codes ": " ++ (row_kind_word kind ++ (codes "\n" ++ count_words count))))
failure_text (failures.Rejected row kind count) =
    codes "row " ++ (decimal row ++ (codes ": " ++ (row_kind_word kind ++ (codes "\n" ++ count_words count))))
failure_text failures.ColumnTooLong = codes "column: ColumnTooLong"
failure_text (failures.File reason) = codes "file: " ++ reason_word reason
failure_text (failures.CannotRead path) = codes "cannot read " ++ string_bytes path
failure_text failures.CannotReadColumn = codes "cannot read column"
failure_text (failures.CannotWrite path) = codes "cannot write " ++ string_bytes path
failure_text failures.CannotWriteRows = codes "cannot write rows"
failure_text failures.CannotWriteList = codes "cannot write list"
failure_text failures.CannotWriteOutput = codes "cannot write output"
failure_text (failures.UnknownZone name) = codes "unknown zone " ++ string_bytes name
failure_text failures.Memory = codes "out of memory"
failure_text failures.NoThread = codes "no thread"

-- The status with which the program ends: 1 where what is read is at fault, 2 where the words are,
-- by a zone that isn't there, 3 where something can't be read or written, 4 where memory runs out or
-- no thread starts.
abbrev pub status_of : Failure → ℕ
status_of (failures.Line line kind) = 1
status_of (failures.TextLine text line kind) = 1
status_of (failures.Row row kind) = 1
status_of (failures.Rows row kind count) = 1
status_of (failures.Rejected row kind count) = 5
status_of failures.ColumnTooLong = 1
status_of (failures.File reason) = 1
status_of (failures.CannotRead path) = 3
status_of failures.CannotReadColumn = 3
status_of (failures.CannotWrite path) = 3
status_of failures.CannotWriteRows = 3
status_of failures.CannotWriteList = 3
status_of failures.CannotWriteOutput = 3
status_of (failures.UnknownZone name) = 2
status_of failures.Memory = 4
status_of failures.NoThread = 4
