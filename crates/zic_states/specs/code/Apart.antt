-- Rules that lie so far apart that their occurrences come in order in all years after the last that a set names.
use Rattle.std.specs.Prelude.{◌≡◌, ◌≤◌, ◌⊎◌, ℕ, None}
use Rattle.std.specs.Int.{IsInRange, abs_diff}
use Rattle.zic_lines.specs.declared.rule_line.Rule.{Rule}
use Rattle.zic_states.specs.Occurrence.{RuleSet, IsMember}

-- from each of two months to the next of the other it is three months or more
abbrev pub AreMonthsApart : ℕ → ℕ → Type 0
AreMonthsApart m n = IsInRange 3 9 (abs_diff m n)

-- If both rules go on for ever, their months lie apart.
abbrev pub LieApart : Rule → Rule → Type 0
LieApart r s = r.last ≡ None → s.last ≡ None → AreMonthsApart r.moment.month s.moment.month

-- the rule of this number lies apart from each other rule of the set
abbrev pub LiesApart : RuleSet → ℕ → Type 0
LiesApart set j = (k : ℕ) (r s : Rule) → IsMember set j r → IsMember set k s → (j ≡ k) ⊎ LieApart r s

-- each rule of the set lies apart from each other
abbrev pub LieFarApart : RuleSet → Type 0
LieFarApart set = (j : ℕ) → LiesApart set j

-- A set whose occurrences come in order up to this number of years after the last that it names is in order for ever: 405 years are
-- enough for each set, three for one whose rules lie far apart.
pub record AreEnoughYears (set : RuleSet) (years : ℕ) : Type 0 where
  pub few : years ≤ 405
  pub enough : (years ≡ 405) ⊎ ((3 ≤ years) × LieFarApart set)
