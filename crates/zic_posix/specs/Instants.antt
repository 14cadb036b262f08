-- Instants one after another, and how far they reach.
use Rattle.std.specs.Prelude.{◌≡◌, ℤ, pos, ◌+ℤ◌, ◌<ℤ◌, ◌≤ℤ◌, ◌⊎◌}
use Rattle.zic_posix.specs.declared.span.Instants.{Instants}
use Rattle.zic_posix.specs.declared.span.TheConstants.{MIN_INSTANT, MAX_INSTANT}

-- one of the instants
pub record Includes (instants : Instants) (t : ℤ) : Type 0 where
  pub from : instants.first ≤ℤ t
  pub to : t ≤ℤ instants.last

-- The instants from one change to just before the next, as far as 64 bits reach: they begin at a change or with the first instant of
-- all, a change or nothing follows them, and but at the first there is no change among them.
pub record AreBetween (ChangesAt : ℤ → Type 0) (instants : Instants) : Type 0 where
  pub first : (instants.first ≡ MIN_INSTANT) ⊎ ChangesAt instants.first
  pub last : (instants.last ≡ MAX_INSTANT) ⊎ ChangesAt (instants.last +ℤ pos 1)
  pub none : (t : ℤ) → instants.first <ℤ t → t ≤ℤ instants.last → ChangesAt t → ⊥
