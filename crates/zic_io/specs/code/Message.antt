-- The parts of a failure's text.
use Rattle.std.specs.Prelude.{ℕ, codes, List, string_bytes}
use Rattle.zic_base.specs.Fault.{kind_word}
use Rattle.zic_tzif.specs.Reason.{reason_word}
use Rattle.zic_base.specs.RowFault.{row_kind_word}
use Rattle.zic_io.specs.declared.failure.Failure.{Failure}
use Rattle.zic_io.specs.declared.failure.Failure.TheVariants as failures

-- the words with which the text begins
abbrev pub first_words : Failure → List ℕ
first_words (failures.Line line kind) = codes "line "
first_words (failures.TextLine text line kind) = codes "text "
first_words (failures.Row row kind) = codes "row "
first_words (failures.Rows row kind count) = codes "row "
first_words (failures.Rejected row kind count) = codes "row "
first_words failures.ColumnTooLong = codes "column: "
first_words (failures.File reason) = codes "file: "
first_words (failures.CannotRead path) = codes "cannot read "
first_words failures.CannotReadColumn = codes "cannot read "
first_words (failures.CannotWrite path) = codes "cannot write "
first_words failures.CannotWriteRows = codes "cannot write "
first_words failures.CannotWriteList = codes "cannot write "
first_words failures.CannotWriteOutput = codes "cannot write "
first_words (failures.UnknownZone name) = codes "unknown zone "
first_words failures.Memory = codes "out of "
first_words failures.NoThread = codes "no "

-- the name in the text
abbrev pub name_in : Failure → List ℕ
name_in (failures.Line line kind) = kind_word kind
name_in (failures.TextLine text line kind) = kind_word kind
name_in (failures.Row row kind) = row_kind_word kind
name_in (failures.Rows row kind count) = row_kind_word kind
name_in (failures.Rejected row kind count) = row_kind_word kind
name_in failures.ColumnTooLong = codes "ColumnTooLong"
name_in (failures.File reason) = reason_word reason
name_in (failures.CannotRead path) = string_bytes path
name_in failures.CannotReadColumn = codes "column"
name_in (failures.CannotWrite path) = string_bytes path
name_in failures.CannotWriteRows = codes "rows"
name_in failures.CannotWriteList = codes "list"
name_in failures.CannotWriteOutput = codes "output"
name_in (failures.UnknownZone name) = string_bytes name
name_in failures.Memory = codes "memory"
name_in failures.NoThread = codes "thread"
