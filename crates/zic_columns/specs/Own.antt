-- The own bytes of each record, as they stand in a column: with its delimiters and double quotes, without the line ends before it and
-- after it.
use Rattle.std.specs.Prelude.{ℕ, List, [], ◌∷◌, ◌++◌, if◌then◌else◌}
use Rattle.csv.specs.Machine.{ends_at_end, is_end, step}
use Rattle.csv.specs.declared.parser.Config.{Config}
use Rattle.csv.specs.declared.parser.State.{State}
use Rattle.csv.specs.declared.parser.State.TheVariants as st
use Rattle.zic_columns.specs.Column.{column_records, config_of}

-- The own bytes of a record so far, after one more byte, which leads the machine to a state. Within a record the byte joins them; before
-- one there are none. (`ends_at_end`: the machine is within a record, which the end of the column would end.)
abbrev pub own_after : State → ℕ → List ℕ → List ℕ
own_after s byte own = if ends_at_end s then own ++ byte ∷ [] else []

-- the own bytes of records, from a state of a CSV reader's machine, where `own` is what was read so far of the first record
unfoldable pub own_from : Config → State → List ℕ → List ℕ → List (List ℕ)
own_from cfg s own [] = if ends_at_end s then own ∷ [] else []
own_from cfg s own (byte ∷ bytes) =
    if is_end (step cfg s byte).1 then own ∷ own_from cfg (step cfg s byte).0 [] bytes
    else own_from cfg (step cfg s byte).0 (own_after (step cfg s byte).0 byte own) bytes

-- the own bytes of the records of a column
abbrev pub own_texts : ℕ → List ℕ → List (List ℕ)
own_texts delimiter bytes = own_from (config_of delimiter) st.StartRecord [] bytes

-- the first of texts, and no bytes where there is none
abbrev pub first_text : List (List ℕ) → List ℕ
first_text [] = []
first_text (text ∷ texts) = text

-- the own bytes of the first record, and no bytes where there is no record
abbrev pub first_own : ℕ → List ℕ → List ℕ
first_own delimiter bytes = first_text (own_texts delimiter bytes)

-- a record's own bytes and its fields
pub record CsvRecord : Type 0 where
  pub own : List ℕ
  pub fields : List (List ℕ)

-- own bytes, each paired with the fields of its record
abbrev pub paired : List (List ℕ) → List (List (List ℕ)) → List CsvRecord
paired [] records = []
paired (own ∷ texts) [] = []
paired (own ∷ texts) (fields ∷ records) = record { own = own; fields = fields } ∷ paired texts records

-- the records of a column, each with its own bytes
abbrev pub csv_records : ℕ → List ℕ → List CsvRecord
csv_records delimiter bytes = paired (own_texts delimiter bytes) (column_records delimiter bytes)
