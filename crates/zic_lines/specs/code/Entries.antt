-- The entries that functions of their own read.
use Rattle.std.specs.Prelude.{◌≡◌, ℕ, List, Result, Ok, Some, false}
use Rattle.zic_base.specs.declared.fault.Place.{Place}
use Rattle.zic_lines.specs.declared.zone_line.ZoneLine.{ZoneLine}
use Rattle.zic_lines.specs.declared.entry.Entry.{Entry}
use Rattle.zic_lines.specs.declared.entry.Entry.TheVariants as entries
use Rattle.zic_lines.specs.Entry.{is_continuation}
use Rattle.zic_lines.specs.Grammar.{FieldsSay}

-- The fields at this place say the entry, which is none of a continuation line.
abbrev pub IsOtherLine : Place → List (List ℕ) → Entry → Type 0
IsOtherLine place fields entry = FieldsSay place fields (Some entry) × (is_continuation entry ≡ false)

-- the entry of a zone's name and its first line, where both were made
pub record IsZoneOf {E : Type 0} (made_name : Result (List ℕ) E) (made_line : Result ZoneLine E) (entry : Entry) : Type 0 where
  pub name : List ℕ
  pub line : ZoneLine
  pub is : entry ≡ entries.Zone name line
  pub named : made_name ≡ Ok name
  pub lined : made_line ≡ Ok line
