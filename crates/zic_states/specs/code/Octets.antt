-- Abbreviations in 16 bytes.
use Rattle.std.specs.Prelude.{◌≡◌, ℕ, ◌-◌, true, List, ◌++◌, length, replicate, take}
use Rattle.zic_base.specs.declared.constants.TheConstants.{LONGEST_ABBREVIATION}
use Rattle.zic_lines.specs.Limits.{is_abbreviation}

-- a name, and zeros after it
abbrev pub padded : List ℕ → List ℕ
padded name = name ++ replicate (LONGEST_ABBREVIATION - length name) 0

-- The first bytes, up to this number, are an abbreviation, and the others are zeros.
pub record HoldAbbreviation (octets : List ℕ) (len : ℕ) : Type 0 where
  pub zeros : octets ≡ padded (take len octets)
  pub within : len ≡ length (take len octets)
  pub name : is_abbreviation (take len octets) ≡ true
