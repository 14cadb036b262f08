-- The first of some rules whose flag is standard.
use Rattle.std.specs.Prelude.{◌≡◌, ℕ, ◌<◌, ℤ, pos, ◌<ℤ◌, ◌≤ℤ◌, false, List, Contains, slice_get, slice_index, Option, Some, None}
use Rattle.zic_lines.specs.declared.rule_line.Rule.{Rule}
use Rattle.zic_states.specs.Occurrence.{nominal_second}

-- the nominal second of a rule's first occurrence
abbrev pub first_second : Rule → ℤ
first_second rule = nominal_second (pos rule.first) rule.moment

-- the rule of this number, whose flag is standard
pub record IsStandard (rules : List Rule) (number : ℕ) (rule : Rule) : Type 0 where
  pub numbered : slice_get rules number ≡ Some rule
  pub standard : rule.saving.daylight ≡ false

-- Its flag is standard, and it occurs before the one found so far, if there is one.
abbrev pub ComesFirst : List Rule → ℕ → Option ℕ → Type 0
ComesFirst rules number None = (rule : Rule) × IsStandard rules number rule
ComesFirst rules number (Some found) =
    (rule : Rule) × IsStandard rules number rule × ((other : Rule) → slice_get rules found ≡ Some other → first_second rule <ℤ first_second other)

-- the one of the first n of these numbers that occurs first, of those whose flag is standard
pub record OccursFirst (rules : List Rule) (numbers : List ℕ) (n found : ℕ) : Type 0 where
  pub rule : Rule
  pub is : IsStandard rules found rule
  pub contained : Contains numbers found
  pub first : (k : ℕ) (other : Rule) → k < n → IsStandard rules (slice_index numbers k) other → first_second rule ≤ℤ first_second other

-- that one, or none, where none of them is standard
abbrev pub IsFirstOfStandard : List Rule → List ℕ → ℕ → Option ℕ → Type 0
IsFirstOfStandard rules numbers n None = (k : ℕ) (rule : Rule) → k < n → IsStandard rules (slice_index numbers k) rule → ⊥
IsFirstOfStandard rules numbers n (Some found) = OccursFirst rules numbers n found
