-- The faults of a zone whose source was read.
use Rattle.std.specs.Prelude.{◌≡◌, ◌<◌, ◌≤ℤ◌, ◌+ℤ◌, ℕ, suc, ℤ, pos, true, false, List, Some, None, IsSomeAnd, unsigned_abs}
use Rattle.zic_base.specs.Fault.{kind_number}
use Rattle.zic_base.specs.declared.fault.Fault.{Fault}
use Rattle.zic_base.specs.declared.fault.Kind.{Kind}
use Rattle.zic_base.specs.declared.fault.Kind.TheVariants as kind
use Rattle.zic_lines.specs.declared.rule_line.Rule.{Rule}
use Rattle.zic_lines.specs.declared.rules.Rules.{Rules}
use Rattle.zic_lines.specs.declared.rules.Rules.TheVariants.{Standard, Amount, Set}
use Rattle.zic_lines.specs.declared.zone_line.ZoneLine.{ZoneLine}
use Rattle.zic_lines.specs.declared.time.TheConstants.{GREATEST_OFFSET}
use Rattle.zic_states.specs.Occurrence.{IsMember}
use Rattle.zic_states.specs.Order.{IsOutOfOrder}
use Rattle.zic_states.specs.Abbreviation.{abbreviation}
use Rattle.zic_lines.specs.Limits.{is_abbreviation}
use Rattle.zic_states.specs.InForce.{InForce}
use Rattle.zic_base.specs.State.{Shown}
use Rattle.zic_states.specs.Until.{set_of}
use Rattle.zic_states.specs.Zone.{Zone, lines_of, line_at, Ends, ZoneHasInForce, Shows}

-- a saving of RULES: none, the amount, or that of a rule of the set
abbrev pub IsSavingOf : List Rule → Rules → ℤ → Type 0
IsSavingOf rules Standard saving = saving ≡ pos 0
IsSavingOf rules (Amount amount) saving = saving ≡ amount.seconds
IsSavingOf rules (Set name) saving =
    (number : ℕ) × (rule : Rule) × IsMember (set_of rules name) number rule × (saving ≡ rule.saving.seconds)

-- OffsetRange: a line's standard offset and a saving of its RULES pass 24:00:00 either way together
pub record HasOffsetOutOfRange (zone : Zone) : Type 0 where
  pub number : ℕ
  pub line : ZoneLine
  pub is_line : line_at zone number ≡ Some line
  pub saving : ℤ
  pub is_saving : IsSavingOf zone.source.rules line.rules saving
  pub passes : GREATEST_OFFSET < unsigned_abs (line.offset +ℤ saving)

-- RulesOutOfOrder: a line's set is out of order, in some year
pub record HasRulesOutOfOrder (zone : Zone) : Type 0 where
  pub number : ℕ
  pub line : ZoneLine
  pub is_line : line_at zone number ≡ Some line
  pub name : List ℕ
  pub has_set : line.rules ≡ Set name
  pub disorder : IsOutOfOrder (set_of zone.source.rules name) line.offset

-- UntilNotRising: a line's UNTIL isn't after that of the line before it
pub record HasUntilNotRising (zone : Zone) : Type 0 where
  pub number : ℕ
  pub earlier : ℤ
  pub later : ℤ
  pub ends : Ends zone number earlier
  pub next_ends : Ends zone (suc number) later
  pub not_after : later ≤ℤ earlier

-- NoLetter: at some instant FORMAT wants a letter and there is none
pub record HasNoLetter (zone : Zone) : Type 0 where
  pub t : ℤ
  pub line : ZoneLine
  pub in_force : InForce
  pub keeps : ZoneHasInForce zone t line in_force
  pub wants : abbreviation line.format (line.offset +ℤ in_force.saving) in_force.daylight in_force.letter ≡ None

-- BadAbbreviation: at some instant the zone shows an abbreviation that breaks its limit
pub record HasBadAbbreviation (zone : Zone) : Type 0 where
  pub t : ℤ
  pub state : Shown
  pub shows : Shows zone t state
  pub breaks : is_abbreviation state.name ≡ false

-- This kind of fault, one of the five of a zone's states, applies to the zone.
abbrev pub Applies : Zone → Kind → Type 0
Applies zone kind.OffsetRange = HasOffsetOutOfRange zone
Applies zone kind.RulesOutOfOrder = HasRulesOutOfOrder zone
Applies zone kind.UntilNotRising = HasUntilNotRising zone
Applies zone kind.NoLetter = HasNoLetter zone
Applies zone kind.BadAbbreviation = HasBadAbbreviation zone
Applies zone _ = ⊥

-- None applies.
abbrev pub IsSound : Zone → Type 0
IsSound zone = (kind : Kind) → Applies zone kind → ⊥

-- the fault of a zone's states: the kind of the least number that applies, at its Zone line
pub record IsFaultOfStates (zone : Zone) (fault : Fault) : Type 0 where
  pub applies : Applies zone fault.kind
  pub least : (other : Kind) → Applies zone other → kind_number other < kind_number fault.kind → ⊥
  pub place : IsSomeAnd (lines_of zone) (λ lines. fault.place ≡ lines.first.place)
