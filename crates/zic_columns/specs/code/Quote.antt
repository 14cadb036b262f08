-- The first double quote, and stray ones.
use Rattle.std.specs.Prelude.{◌≡◌, ◌<◌, ◌||◌, ℕ, Bool, List, ◌∷◌, length, slice_index, take}
use Rattle.csv.specs.declared.parser.State.{State}
use Rattle.zic_columns.specs.Column.{HasNoQuote, config_of, state_after}
use Rattle.zic_columns.specs.Quotes.{goes_past, is_quoted}
use Rattle.zic_columns.specs.code.Machine.{state_at}
use Rattle.zic_columns.specs.declared.machine.Place.{Place}

-- the first double quote stands there
pub record IsFirstQuote (bytes : List ℕ) (at : ℕ) : Type 0 where
  pub within : at < length bytes
  pub here : slice_index bytes at ≡ 34
  pub before : HasNoQuote (take at bytes)

-- bytes that a CSV reader's machine reads from a state have a stray double quote
abbrev pub strays_from : ℕ → State → List ℕ → Bool
strays_from delimiter s bytes = is_quoted (state_after (config_of delimiter) s bytes) || goes_past delimiter s bytes

-- after this byte at a place, bytes have a stray double quote where they have one from the next place on
abbrev pub StraysOn : ℕ → Place → ℕ → Place → Type 0
StraysOn delimiter p byte next = (rest : List ℕ) → strays_from delimiter (state_at next) rest ≡ strays_from delimiter (state_at p) (byte ∷ rest)
