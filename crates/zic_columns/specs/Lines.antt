-- The records of a column by where a record ends. RFC 4180, 2, lets a field between double quotes have line ends. That a column may be
-- read line by line instead, and what a line is then, is own choice.
use Rattle.std.specs.Prelude.{ℕ, List, [], map, if◌then◌else◌}
use Rattle.zic_layouts.specs.declared.layout.Records.{Records}
use Rattle.zic_layouts.specs.declared.layout.Records.TheVariants as by
use Rattle.zic_columns.specs.Column.{column_records, lines_of}
use Rattle.zic_columns.specs.Own.{CsvRecord, csv_records, own_texts}
use Rattle.zic_columns.specs.Quotes.{is_open}
use Rattle.zic_columns.specs.Record.{first_fields}

-- The record of a line: the line, and the fields that a CSV reader gives of the line alone, or no fields where the line is open.
abbrev pub line_record : ℕ → List ℕ → CsvRecord
line_record delimiter line = record { own = line; fields = if is_open delimiter line then [] else first_fields (column_records delimiter line) }

-- the records of a column in which each line is one
abbrev pub line_records : ℕ → List ℕ → List CsvRecord
line_records delimiter bytes = map (line_record delimiter) (lines_of bytes)

-- the records of a column, each with its own bytes
abbrev pub records_by : Records → ℕ → List ℕ → List CsvRecord
records_by by.Csv delimiter bytes = csv_records delimiter bytes
records_by by.Lines delimiter bytes = line_records delimiter bytes

-- and their own bytes alone
abbrev pub texts_by : Records → ℕ → List ℕ → List (List ℕ)
texts_by by.Csv delimiter bytes = own_texts delimiter bytes
texts_by by.Lines delimiter bytes = lines_of bytes

-- the record of an open line
abbrev pub open_record : List ℕ → CsvRecord
open_record line = record { own = line; fields = [] }
