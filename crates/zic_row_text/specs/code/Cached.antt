-- The parts of a row that a writer caches for the next.
use Rattle.std.specs.Prelude.{◌≡◌, ℕ, ◌≤◌, ◌-◌, ℤ, pos, ◌-ℤ◌, Bool, if◌then◌else◌, List, [], ◌∷◌, ◌++◌, slice_range, take}
use Rattle.zic_base.specs.Digits.{offset_text}
use Rattle.zic_base.specs.State.{Shown}
use Rattle.zic_row_text.specs.declared.count.TheConstants.{DAYS_TO_1970}
use Rattle.zic_row_text.specs.Local.{civil_of}
use Rattle.zic_row_text.specs.Row.{date_text, state_text, IsRowState}

-- the date of a day and a `T`; the days are counted from 0001-01-01
unfoldable pub cached_date : ℕ → List ℕ
cached_date day = date_text (civil_of (pos day -ℤ pos DAYS_TO_1970) 0) ++ 84 ∷ []

-- a comma, an offset, a comma, a daylight flag and a comma
unfoldable pub before_name : ℤ → Bool → List ℕ
before_name offset daylight = 44 ∷ (offset_text offset ++ 44 ∷ (if daylight then 49 else 48) ∷ 44 ∷ [])

-- the state of a text of this many bytes, which has its abbreviation before the newline
abbrev pub state_in : ℤ → Bool → List ℕ → ℕ → Shown
state_in offset daylight octets len = record { offset = offset; daylight = daylight; name = slice_range octets 13 (len - 1) }

-- The first of these bytes, up to this number, are the text of the state with commas, which a row may have.
pub record IsTextOf (state : Shown) (octets : List ℕ) (len : ℕ) : Type 0 where
  pub may : IsRowState state
  pub text : take len octets ≡ state_text 44 state
  pub fits : len ≤ 32
