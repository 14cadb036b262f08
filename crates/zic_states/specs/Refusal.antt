-- Why a FORMAT filled in is no abbreviation.
use Rattle.std.specs.Prelude.{◌≡◌, ℕ, false, List, Option, Some, None, ◌⊎◌}
use Rattle.zic_base.specs.declared.fault.Kind.{Kind}
use Rattle.zic_base.specs.declared.fault.Kind.TheVariants.{NoLetter, BadAbbreviation}
use Rattle.zic_lines.specs.Limits.{is_abbreviation}

-- It gives a text that is no abbreviation.
pub record BreaksLimit (filled : Option (List ℕ)) : Type 0 where
  pub name : List ℕ
  pub is : filled ≡ Some name
  pub breaks : is_abbreviation name ≡ false

-- NoLetter just where there is no text, as FORMAT wants a letter; BadAbbreviation just where there is one that is no abbreviation
abbrev pub IsRefusal : Option (List ℕ) → Kind → Type 0
IsRefusal filled kind = ((kind ≡ NoLetter) × (filled ≡ None)) ⊎ ((kind ≡ BadAbbreviation) × BreaksLimit filled)
