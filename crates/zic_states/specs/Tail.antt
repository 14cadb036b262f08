-- The rules that decide what a zone shows from its explicit end on: those of the last line's set that have no last year.
use Rattle.std.specs.Prelude.{◌≡◌, ◌≢◌, ℕ, ◌*◌, ℤ, pos, ◌+ℤ◌, ◌<ℤ◌, ◌≤ℤ◌, List, None}
use Rattle.zic_lines.specs.declared.rule_line.Rule.{Rule}
use Rattle.zic_lines.specs.declared.rules.Rules.{Rules}
use Rattle.zic_lines.specs.declared.rules.Rules.TheVariants.{Standard, Amount, Set}
use Rattle.zic_lines.specs.declared.zone_line.ZoneLine.{ZoneLine}
use Rattle.zic_states.specs.OccurrenceLaws.{IsLastOccurrence}
use Rattle.zic_states.specs.Occurrence.{RuleSet, IsMember, Occurrence, IsOccurrence}
use Rattle.zic_states.specs.Order.{IsPredecessor}
use Rattle.zic_states.specs.End.{IsLastLine, IsLastYear}
use Rattle.zic_states.specs.InForce.{InForce, in_force_from}
use Rattle.zic_base.specs.State.{Shown}
use Rattle.zic_states.specs.Until.{set_of}
use Rattle.zic_states.specs.Zone.{Zone, ZoneHasInForce, Shows}

-- The rule goes on for ever: it has no last year.
abbrev pub IsContinuing : Rule → Type 0
IsContinuing rule = rule.last ≡ None

-- some rule of the set goes on for ever
abbrev pub HasContinuing : RuleSet → Type 0
HasContinuing set = (number : ℕ) × (rule : Rule) × IsMember set number rule × IsContinuing rule

-- this rule of the set goes on for ever, and no other
pub record IsOnlyContinuing (set : RuleSet) (number : ℕ) (rule : Rule) : Type 0 where
  pub member : IsMember set number rule
  pub continues : IsContinuing rule
  pub only : (other : ℕ) (its : Rule) → IsMember set other its → IsContinuing its → other ≡ number

-- No two neighbouring occurrences of years after this one are of one rule.
abbrev pub Alternate : RuleSet → ℤ → Type 0
Alternate set year =
    (o p : Occurrence) → IsOccurrence set o → IsPredecessor set o p → year <ℤ o.year → year <ℤ p.year → o.number ≢ p.number

-- The occurrence before this one is of another rule, which goes on for ever, and of a year after this one.
pub record FollowsAnother (set : RuleSet) (year : ℤ) (o : Occurrence) : Type 0 where
  pub before : Occurrence
  pub predecessor : IsPredecessor set o before
  pub after : year <ℤ before.year
  pub continues : IsContinuing before.rule
  pub another : o.number ≢ before.number

-- RULES name no set
abbrev pub HasNoSet : Rules → Type 0
HasNoSet Standard = Unit {0}
HasNoSet (Amount saving) = Unit {0}
HasNoSet (Set name) = ⊥

-- The last line of the zone, of this number, has the set of this name, and this is the last year that it names.
pub record HasLastSet (zone : Zone) (i : ℕ) (line : ZoneLine) (name : List ℕ) (year : ℤ) : Type 0 where
  pub is_last : IsLastLine zone i line
  pub has_set : line.rules ≡ Set name
  pub last_year : IsLastYear zone i name year

-- at t the zone has this in force by this line, and nothing else
pub record HasJustInForce (zone : Zone) (t : ℤ) (line : ZoneLine) (in_force : InForce) : Type 0 where
  pub keeps : ZoneHasInForce zone t line in_force
  pub only : (other : ZoneLine) (thing : InForce) → ZoneHasInForce zone t other thing → (other ≡ line) × (thing ≡ in_force)

-- the same at t and for ever after
abbrev pub HasInForceFrom : Zone → ℤ → ZoneLine → InForce → Type 0
HasInForceFrom zone t line in_force = (u : ℤ) → t ≤ℤ u → HasJustInForce zone u line in_force

-- at t the zone has in force what the last occurrence not after t begins, which is of a year after this one and of a rule that goes on
-- for ever
pub record HasInForceByContinuing (zone : Zone) (t : ℤ) (line : ZoneLine) (name : List ℕ) (year : ℤ) : Type 0 where
  pub occurrence : Occurrence
  pub instant : ℤ
  pub current : IsLastOccurrence (set_of zone.source.rules name) line.offset t occurrence instant
  pub after : year <ℤ occurrence.year
  pub continues : IsContinuing occurrence.rule
  pub keeps : HasJustInForce zone t line (in_force_from occurrence)

-- From this instant on the zone has in force and shows after 400 years, which are 146,097 days, what it has in force and shows.
pub record Repeats (zone : Zone) (start : ℤ) : Type 0 where
  pub keeps : (t : ℤ) (line : ZoneLine) (in_force : InForce) → start ≤ℤ t → ZoneHasInForce zone t line in_force
      → ZoneHasInForce zone (t +ℤ pos (146_097 * 86_400)) line in_force
  pub shows : (t : ℤ) (state : Shown) → start ≤ℤ t → Shows zone t state → Shows zone (t +ℤ pos (146_097 * 86_400)) state
