-- The byte order mark at the start of a column.
use Rattle.std.specs.Prelude.{◌≡◌, List, ℕ, ◌++◌}
use Rattle.csv.specs.Reading.{strip_bom}

-- Whatever follows these bytes, the column begins with a mark where they do.
abbrev pub ShowsMark : List ℕ → Type 0
ShowsMark bytes = (rest : List ℕ) → strip_bom (bytes ++ rest) ≡ strip_bom bytes ++ rest
