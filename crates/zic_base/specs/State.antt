-- The state that a zone shows at an instant.
use Rattle.std.specs.Prelude.{ℕ, ℤ, Bool, List}
use Rattle.zic_base.specs.declared.state.State.{State}

-- total UT offset in seconds, positive east; daylight flag; abbreviation
pub record Shown : Type 0 where
  pub offset : ℤ
  pub daylight : Bool
  pub name : List ℕ

-- a state without where its abbreviation lies in memory
abbrev pub shown : State → Shown
shown s = record { offset = s.offset; daylight = s.daylight; name = s.name.now }
