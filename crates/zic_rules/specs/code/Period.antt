-- The periods of a zone: which of its lines governs, and what its RULES keep, from an instant on up to the next.
use Rattle.std.specs.Prelude.{◌≡◌, ◌+◌, ◌<◌, ℕ, ℤ, ◌<ℤ◌, ◌≤ℤ◌, ◌⊎◌, List, All, AllPairs, Option, Some, None, IfSome, slice_get, length}
use Rattle.std.specs.Option.{ForSome}
use Rattle.zic_base.specs.declared.fault.Kind.{Kind}
use Rattle.zic_base.specs.declared.fault.Kind.TheVariants as kind
use Rattle.zic_lines.specs.declared.zone_line.ZoneLine.{ZoneLine}
use Rattle.zic_source.specs.Source.{lines_of_zone}
use Rattle.zic_states.specs.Fault.{HasRulesOutOfOrder, HasUntilNotRising}
use Rattle.zic_states.specs.InForce.{InForce, IsInForceBy, IsRuleOf}
use Rattle.zic_states.specs.Zone.{Zone, lines_of, Governs, HasInForce}
use Rattle.zic_rules.specs.declared.line.Period.{Period}
use Rattle.zic_rules.specs.declared.zone.Zone as zones
use Rattle.zic_rules.specs.Timeline.{zone_of}

-- a zone of the code, without where its source lies in memory
abbrev pub the_zone : zones.Zone → Zone
the_zone zone = zone_of zone.source.now zone.number

-- The zone has a line of this number, from 0.
abbrev pub HasLine : Zone → ℕ → Type 0
HasLine zone number = ForSome (lines_of zone) (λ lines. number < length (lines_of_zone lines))

-- The line of this number governs at t, and has in force what is in force by this rule, or before all occurrences.
pub record Holds (zone : Zone) (t : ℤ) (number : ℕ) (rule : Option ℕ) : Type 0 where
  pub line : ZoneLine
  pub governs : Governs zone number line t
  pub of_line : IsRuleOf zone.source.rules line.rules rule
  pub keeps : (in_force : InForce) → IsInForceBy zone.source.rules line.rules rule in_force → HasInForce zone number line t in_force

-- all periods of a zone before an instant, in order; before the first the Zone line governs, before all its occurrences
pub record ArePeriods (zone : Zone) (end : ℤ) (periods : List Period) : Type 0 where
  pub rising : AllPairs (λ a b. a.from <ℤ b.from) periods
  pub before_end : All (λ s. s.from <ℤ end) periods
  pub before : (t : ℤ) → t <ℤ end → All (λ s. t <ℤ s.from) periods → Holds zone t 0 None
  pub each : (k : ℕ) (s : Period) (t : ℤ) → slice_get periods k ≡ Some s → s.from ≤ℤ t → t <ℤ end
      → IfSome (slice_get periods (k + 1)) (λ next. t <ℤ next.from) → Holds zone t s.line s.rule

-- why a zone has no periods: a set is out of order, or else an UNTIL doesn't rise
abbrev pub IsFaultOfPeriods : Zone → Kind → Type 0
IsFaultOfPeriods zone fault =
    ((fault ≡ kind.RulesOutOfOrder) × HasRulesOutOfOrder zone)
    ⊎ ((fault ≡ kind.UntilNotRising) × HasUntilNotRising zone × (HasRulesOutOfOrder zone → ⊥))
