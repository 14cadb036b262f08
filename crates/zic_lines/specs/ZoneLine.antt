-- Zone lines and continuation lines: zic(8), FILES.
use Rattle.std.specs.Prelude.{◌≡◌, ℕ, List, ◌∷◌, Some, IsTrue}
use Rattle.zic_base.specs.declared.fault.Place.{Place}
use Rattle.zic_lines.specs.declared.keyword.Keyword.TheVariants.{Zone}
use Rattle.zic_lines.specs.declared.zone_line.ZoneLine.{ZoneLine}
use Rattle.zic_lines.specs.Keyword.{keyword_of}
use Rattle.zic_lines.specs.Name.{is_name}
use Rattle.zic_lines.specs.Time.{offset_of}
use Rattle.zic_lines.specs.RulesField.{rules_of}
use Rattle.zic_lines.specs.Format.{format_of}
use Rattle.zic_lines.specs.Until.{until_of}

-- The fields at this place are `STDOFF RULES FORMAT [YEAR [MONTH [DAY [TIME]]]]`, and say this: all fields of a continuation
-- line, or those after a zone's name.
pub record IsContinuationLine (place : Place) (fields : List (List ℕ)) (line : ZoneLine) : Type 0 where
  pub stdoff : List ℕ
  pub rules : List ℕ
  pub format : List ℕ
  pub until : List (List ℕ)
  pub are : fields ≡ stdoff ∷ rules ∷ format ∷ until
  pub offset : offset_of stdoff ≡ Some line.offset
  pub keeps : rules_of rules ≡ Some line.rules
  pub abbreviates : format_of format ≡ Some line.format
  pub ends : until_of until ≡ Some line.until
  pub located : line.place ≡ place

-- The fields at this place are `Zone NAME` and those of a continuation line, and say this of the zone of that name.
pub record IsZoneLine (place : Place) (fields : List (List ℕ)) (name : List ℕ) (line : ZoneLine) : Type 0 where
  pub keyword : List ℕ
  pub others : List (List ℕ)
  pub are : fields ≡ keyword ∷ name ∷ others
  pub is_zone : keyword_of keyword ≡ Some Zone
  pub named : IsTrue (is_name name)
  pub says : IsContinuationLine place others line
