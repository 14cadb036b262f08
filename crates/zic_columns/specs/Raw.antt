-- The raw fields of a record: its fields as they stand in a column, with their double quotes.
use Rattle.std.specs.Prelude.{ℕ, List, [], ◌∷◌, ◌++◌, Bool, true, false, set, if◌then◌else◌}
use Rattle.csv.specs.Machine.{step}
use Rattle.csv.specs.declared.parser.Action.{Action}
use Rattle.csv.specs.declared.parser.Action.TheVariants as act
use Rattle.csv.specs.declared.parser.Config.{Config}
use Rattle.csv.specs.declared.parser.State.{State}
use Rattle.csv.specs.declared.parser.State.TheVariants as st
use Rattle.zic_columns.specs.Column.{config_of}
use Rattle.zic_columns.specs.Quotes.{delimited}

-- a CSV reader has read a delimiter that ends a field
abbrev pub ends_at_delimiter : Action → Bool
ends_at_delimiter act.EndField = true
ends_at_delimiter act.EndRecord = false
ends_at_delimiter act.Copy = false
ends_at_delimiter act.Skip = false

-- the raw fields of a record's own bytes, from a state of a CSV reader's machine, where `raw` is what was read so far of the first of them
unfoldable pub raw_from : Config → State → List ℕ → List ℕ → List (List ℕ)
raw_from cfg s raw [] = raw ∷ []
raw_from cfg s raw (byte ∷ bytes) =
    if ends_at_delimiter (step cfg s byte).1 then raw ∷ raw_from cfg (step cfg s byte).0 [] bytes
    else raw_from cfg (step cfg s byte).0 (raw ++ byte ∷ []) bytes

-- the raw fields of a record's own bytes: what stands between the delimiters that end its fields
abbrev pub raw_fields : ℕ → List ℕ → List (List ℕ)
raw_fields delimiter own = raw_from (config_of delimiter) st.StartRecord [] own

-- a record's own bytes with a text in the place of the raw field of an index
abbrev pub replaced : ℕ → List ℕ → ℕ → List ℕ → List ℕ
replaced delimiter own index text = delimited delimiter (set (raw_fields delimiter own) index text)
