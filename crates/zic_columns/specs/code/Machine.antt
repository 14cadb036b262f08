-- A CSV reader's machine, as it reads the bytes of one record.
use Rattle.std.specs.Prelude.{◌≡◌, ◌<◌, ◌≤◌, ℕ, true, false, List, ◌++◌, length, slice_index, take, Some}
use Rattle.csv.specs.Machine.{ends_at_end, is_end, next_record, step}
use Rattle.csv.specs.declared.parser.State.{State}
use Rattle.csv.specs.declared.parser.State.TheVariants as st
use Rattle.zic_columns.specs.Column.{config_of, ends_line}
use Rattle.zic_columns.specs.declared.machine.Place.{Place}
use Rattle.zic_columns.specs.declared.machine.Place.TheVariants as place

-- the state of the machine at a place in a record
abbrev pub state_at : Place → State
state_at place.Start = st.StartField
state_at place.Plain = st.InField
state_at place.Quoted = st.InQuoted
state_at place.QuoteSeen = st.AfterQuote

-- the byte ends the record
abbrev pub EndsRecord : ℕ → State → ℕ → Type 0
EndsRecord delimiter s byte = is_end (step (config_of delimiter) s byte).1 ≡ true

-- the byte is one of the record, and the machine goes on in another state
abbrev pub GoesOn : ℕ → State → ℕ → State → Type 0
GoesOn delimiter s byte t = (is_end (step (config_of delimiter) s byte).1 ≡ false) × ((step (config_of delimiter) s byte).0 ≡ t)

-- Whatever it has read of a record before, the machine reads these bytes of the record, and goes on
-- in another state.
abbrev pub ReadsTo : ℕ → State → List ℕ → State → Type 0
ReadsTo delimiter s bytes t =
    (fields : List (List ℕ)) (field : List ℕ) → (others : List (List ℕ)) × (other : List ℕ)
    × ((more : List ℕ) → next_record (config_of delimiter) s fields field (bytes ++ more) ≡ next_record (config_of delimiter) t others other more)

-- Whatever it has read of a record before, with the last of these bytes the machine has read the
-- record.
abbrev pub EndsWith : ℕ → State → List ℕ → Type 0
EndsWith delimiter s bytes =
    (fields : List (List ℕ)) (field : List ℕ) → (all : List (List ℕ)) × (t : State) × (ends_at_end t ≡ false)
    × ((more : List ℕ) → next_record (config_of delimiter) s fields field (bytes ++ more) ≡ Some (all, t, more))

-- there is a byte, and the first ends no line
pub record BeginsRecord (bytes : List ℕ) : Type 0 where
  pub some : 0 < length bytes
  pub begins : ends_line (slice_index bytes 0) ≡ false

-- the record ends with the last of the first `len` bytes
pub record IsEndOfRecord (delimiter : ℕ) (s : State) (bytes : List ℕ) (len : ℕ) : Type 0 where
  pub some : 0 < len
  pub within : len ≤ length bytes
  pub ends : EndsWith delimiter s (take len bytes)
