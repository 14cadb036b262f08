-- The changes of local time that a file answers: before an instant, after it, and between two. A change is the first instant of what is
-- answered from then on, so a transition that changes nothing is none.
use Rattle.std.specs.Prelude.{◌≡◌, ℕ, ◌<◌, ◌≤◌, ℤ, ◌<ℤ◌, ◌≤ℤ◌, List, length, take, drop}
use Rattle.zic_calendar.specs.Weekday.{IsLeast, IsGreatest}
use Rattle.zic_posix.specs.declared.span.TheConstants.{MIN_INSTANT}
use Rattle.zic_tzif.specs.Content.{Content}
use Rattle.zic_dump.specs.Changes.{ChangesAt}
use Rattle.zic_local.specs.LocalTime.{AreJust}

-- the change after an instant: the least instant after it at which the answer isn't that of a second before
abbrev pub IsNextChange : Content → ℤ → ℤ → Type 0
IsNextChange content t = IsLeast (λ change. (t <ℤ change) × ChangesAt content change)

-- the change before an instant: the greatest before it that has a second before it in 64 bits
abbrev pub IsPreviousChange : Content → ℤ → ℤ → Type 0
IsPreviousChange content t = IsGreatest (λ change. (MIN_INSTANT <ℤ change) × (change <ℤ t) × ChangesAt content change)

-- a change after one instant, and not after another
abbrev pub IsChangeWithin : Content → ℤ → ℤ → ℤ → Type 0
IsChangeWithin content first last change = (first <ℤ change) × (change ≤ℤ last) × ChangesAt content change

-- So many changes after one instant are written, each once and in rising order: all up to another, or as many as there is room for. The rest
-- of the room stays as it was.
pub record AreChangesWritten (content : Content) (first last : ℤ) (before after : List ℤ) (count : ℕ) : Type 0 where
  pub end : ℤ
  pub within : end ≤ℤ last
  pub changes : AreJust (IsChangeWithin content first end) (take count after)
  pub size : length after ≡ length before
  pub fits : count ≤ length after
  pub all : count < length after → end ≡ last
  pub rest : drop count after ≡ drop count before
