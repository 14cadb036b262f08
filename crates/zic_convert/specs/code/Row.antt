-- Records as the code has them.
use Rattle.std.specs.Prelude.{ℕ, List, [], map, Option, None, Some}
use Rattle.zic_columns.specs.Own.{CsvRecord}
use Rattle.zic_files.specs.File.{File}

-- the fields of each record
abbrev pub fields_of_all : List CsvRecord → List (List (List ℕ))
fields_of_all row_records = map (λ (w : CsvRecord). w.fields) row_records

-- the text of a row that each release answers alike: nothing where there is another release
abbrev pub unless_compared : Option (List File) → List ℕ → List ℕ
unless_compared None text = text
unless_compared (Some old) text = []
