-- The rules of a timeline that go on for ever.
use Rattle.std.specs.Prelude.{ℕ, ℤ, ◌+ℤ◌, Bool, false, List, [], Option, Some, None, slice_get, is_none}
use Rattle.std.specs.List.{filter}
use Rattle.zic_base.specs.State.{Shown}
use Rattle.zic_base.specs.declared.fault.Kind.{Kind}
use Rattle.zic_lines.specs.declared.rule_line.Rule.{Rule}
use Rattle.zic_lines.specs.declared.rules.Rules.{Rules}
use Rattle.zic_lines.specs.declared.rules.Rules.TheVariants.{Standard, Amount, Set}
use Rattle.zic_lines.specs.declared.zone_line.ZoneLine.{ZoneLine}
use Rattle.zic_source.specs.Source.{set_rules}
use Rattle.zic_states.specs.Abbreviation.{abbreviation}
use Rattle.zic_states.specs.Change.{Change}
use Rattle.zic_states.specs.End.{IsLastLine}
use Rattle.zic_states.specs.Refusal.{IsRefusal}
use Rattle.zic_states.specs.Zone.{Zone}
use Rattle.zic_rules.specs.Tail.{AreTailRules}
use Rattle.zic_rules.specs.declared.tail.TailRule.{TailRule}
use Rattle.zic_rules.specs.code.Shown.{IsTimeline}

-- the zone's last line
abbrev pub IsLastOf : Zone → ZoneLine → Type 0
IsLastOf zone line = (number : ℕ) × IsLastLine zone number line

-- the numbers of the rules of the set that RULES name; none where they name no set
abbrev pub numbers_of : List Rule → Rules → List ℕ
numbers_of rules Standard = []
numbers_of rules (Amount saving) = []
numbers_of rules (Set name) = set_rules name rules

-- there is a rule, and it goes on for ever
abbrev pub goes_on : Option Rule → Bool
goes_on None = false
goes_on (Some rule) = is_none rule.last

-- those of these numbers whose rules go on for ever
abbrev pub continuing : List Rule → List ℕ → List ℕ
continuing rules numbers = filter (λ n. goes_on (slice_get rules n)) numbers

-- once the rule has occurred, the line's FORMAT gives no abbreviation, for this reason
abbrev pub IsRefusedOnce : ZoneLine → Rule → Kind → Type 0
IsRefusedOnce line rule reason =
    IsRefusal (abbreviation line.format (line.offset +ℤ rule.saving.seconds) rule.saving.daylight (Some rule.letter)) reason

-- the tail rules of the zone's last line
pub record HasTailRules (zone : Zone) (tails : List TailRule) : Type 0 where
  pub number : ℕ
  pub line : ZoneLine
  pub is_last : IsLastLine zone number line
  pub rules : AreTailRules zone.source.rules line (continuing zone.source.rules (numbers_of zone.source.rules line.rules)) tails

-- all fields of a timeline
pub record IsTimelineAndTail (zone : Zone) (end : ℤ) (first : Shown) (cs : List Change) (tails : List TailRule) : Type 0 where
  pub before_end : IsTimeline zone end first cs
  pub tail : HasTailRules zone tails
