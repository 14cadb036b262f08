-- Local time after a number of transitions.
use Rattle.std.specs.Prelude.{◌≡◌, ℕ, zero, suc, List, IsSomeAnd, slice_get}
use Rattle.zic_base.specs.State.{Shown}
use Rattle.zic_tzif.specs.declared.content.Change.{Change}
use Rattle.zic_tzif.specs.Content.{Content, IsStateOfType}

-- the number of the type in force after this number of transitions: type 0 before all of them
abbrev pub IsNumberAfter : List Change → ℕ → ℕ → Type 0
IsNumberAfter changes zero number = number ≡ 0
IsNumberAfter changes (suc k) number = IsSomeAnd (slice_get changes k) (λ c. number ≡ c.number)

-- local time after this number of transitions
abbrev pub IsStateAfter : Content → ℕ → Shown → Type 0
IsStateAfter content count state = (number : ℕ) × IsNumberAfter content.changes count number × IsStateOfType content number state
