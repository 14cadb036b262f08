-- The walk through the lines of a zone.
use Rattle.std.specs.Prelude.{◌≡◌, ℕ, suc, ◌<◌, ℤ, ◌<ℤ◌, List, Option, Some}
use Rattle.zic_lines.specs.declared.zone_line.ZoneLine.{ZoneLine}
use Rattle.zic_states.specs.Zone.{Zone, line_at, Ends}
use Rattle.zic_rules.specs.declared.line.Period.{Period}
use Rattle.zic_rules.specs.code.Held.{AreSoFar}
use Rattle.zic_rules.specs.code.Line.{IsOrderedOn}

-- the set of each line before this one is in order
abbrev pub AreOrderedTo : Zone → ℕ → Type 0
AreOrderedTo zone number = (i : ℕ) (line : ZoneLine) → i < number → line_at zone i ≡ Some line
    → IsOrderedOn zone.source.rules line.offset line.rules

-- the UNTILs of the lines before this one rise
abbrev pub DoRiseTo : Zone → ℕ → Type 0
DoRiseTo zone number = (i : ℕ) (t u : ℤ) → suc i < number → Ends zone i t → Ends zone (suc i) u → t <ℤ u

-- The lines before this one are walked through, and these are their periods, up to the start of this one.
pub record IsWalkedTo (zone : Zone) (number : ℕ) (start : Option ℤ) (periods : List Period) : Type 0 where
  pub ordered : AreOrderedTo zone number
  pub rising : DoRiseTo zone number
  pub so_far : AreSoFar zone number start periods
