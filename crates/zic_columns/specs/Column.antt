-- The records of a column, by the machine of the crate csv with its defaults, but for the delimiter:
-- fields end at delimiters, and a carriage return, a line feed or both end a record. A byte order mark
-- at the start of a column is dropped before.
use Rattle.csv.specs.declared.parser.Config.{Config}
use Rattle.std.specs.Prelude.{◌≡◌, ◌≢◌, ℕ, Bool, true, false, ◌||◌, ◌==◌, List, [], ◌∷◌, ◌++◌, map, filter, All}
use Rattle.std.specs.List.{slice_split}
use Rattle.csv.specs.Machine.{ends_at_end, step}
use Rattle.csv.specs.Reading.{AreRecords, default_config, records}
use Rattle.csv.specs.declared.parser.State.{State}
use Rattle.csv.specs.declared.parser.State.TheVariants as st

-- a CSV reader's defaults, but for the delimiter
abbrev pub config_of : ℕ → Config
config_of delimiter = record default_config { delimiter = delimiter }

-- a byte that is no double quote and ends no line
pub record CanDelimit (delimiter : ℕ) : Type 0 where
  pub quote : delimiter ≢ 34
  pub feed : delimiter ≢ 10
  pub return : delimiter ≢ 13

-- the records that a CSV reader with this delimiter gives of these bytes
abbrev pub AreColumnRecords : ℕ → List ℕ → List (List (List ℕ)) → Type 0
AreColumnRecords delimiter bytes records = AreRecords (config_of delimiter) st.StartRecord bytes records

-- those records, as a list
unfoldable pub column_records : ℕ → List ℕ → List (List (List ℕ))
column_records delimiter bytes = records (config_of delimiter) bytes

-- Whatever follows these bytes, its records come after theirs: a column can be cut there.
abbrev pub AreWholeRecords : ℕ → List ℕ → Type 0
AreWholeRecords delimiter bytes = (rest : List ℕ) → column_records delimiter (bytes ++ rest) ≡ column_records delimiter bytes ++ column_records delimiter rest

-- no byte is a double quote
abbrev pub HasNoQuote : List ℕ → Type 0
HasNoQuote bytes = All (λ byte. byte ≢ 34) bytes

-- a carriage return or a line feed
abbrev pub ends_line : ℕ → Bool
ends_line byte = byte == 13 || byte == 10

-- no line ends in these bytes
abbrev pub HasNoLineEnd : List ℕ → Type 0
HasNoLineEnd bytes = All (λ byte. ends_line byte ≡ false) bytes

abbrev pub has_byte : List ℕ → Bool
has_byte [] = false
has_byte (byte ∷ bytes) = true

-- the lines: what stands between line ends, where that is a byte or more
abbrev pub lines_of : List ℕ → List (List ℕ)
lines_of bytes = filter has_byte (slice_split ends_line bytes)

-- the fields of a line: what stands between delimiters
abbrev pub fields_of : ℕ → List ℕ → List (List ℕ)
fields_of delimiter line = slice_split (λ byte. byte == delimiter) line

-- the records of bytes that have no double quote: the fields of each line
unfoldable pub plain_records : ℕ → List ℕ → List (List (List ℕ))
plain_records delimiter bytes = map (fields_of delimiter) (lines_of bytes)

-- the state of a CSV reader's machine after bytes
unfoldable pub state_after : Config → State → List ℕ → State
state_after cfg s [] = s
state_after cfg s (byte ∷ bytes) = state_after cfg (step cfg s byte).0 bytes

-- after these bytes a CSV reader stands before a record
abbrev pub IsBeforeRecord : ℕ → List ℕ → Type 0
IsBeforeRecord delimiter bytes = ends_at_end (state_after (config_of delimiter) st.StartRecord bytes) ≡ false
