-- The states that a file shows, by number: local time of each of its types, then the footer's standard time, then its daylight saving time.
use Rattle.std.specs.Prelude.{◌≡◌, ℕ, ◌+◌, ◌<◌, ◌↔◌, ◌⊎◌, length, Option, Some, None, IsSomeAnd}
use Rattle.zic_base.specs.State.{Shown}
use Rattle.zic_posix.specs.Footer.{TzString}
use Rattle.zic_posix.specs.Grammar.{Spells}
use Rattle.zic_posix.specs.Meaning.{standard_state, daylight_state}
use Rattle.zic_tzif.specs.Content.{Content, IsStateOfType}

-- the string's standard time is its first state, number 0, and its daylight saving time, if there is one, its second
abbrev pub IsStateOfString : TzString → ℕ → Shown → Type 0
IsStateOfString f place state =
    ((place ≡ 0) × (state ≡ standard_state f)) ⊎ ((place ≡ 1) × IsSomeAnd f.dst (λ dst. state ≡ daylight_state dst))

-- the state of a number: the types have the numbers that RFC 9636, 3.2, gives them, and the footer's states follow (own choice)
abbrev pub IsStateOfNumber : Content → ℕ → Shown → Type 0
IsStateOfNumber content number state =
    IsStateOfType content number state
    ⊎ ((f : TzString) × Spells content.version content.text f
    × ((place : ℕ) × (number ≡ length content.types + place) × IsStateOfString f place state))

-- some state has this number
abbrev pub HasStateOfNumber : Content → ℕ → Type 0
HasStateOfNumber content number = (state : Shown) × IsStateOfNumber content number state

-- the numbers below this one are those of states
abbrev pub AreStates : Content → ℕ → Type 0
AreStates content count = (number : ℕ) → (number < count) ↔ HasStateOfNumber content number

-- the answer, where it is known, is the state of this number
abbrev pub IsAnswerOfNumber : Content → ℕ → Option Shown → Type 0
IsAnswerOfNumber content number (Some state) = IsStateOfNumber content number state
IsAnswerOfNumber content number None = Unit {0}
