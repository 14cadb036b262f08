-- States that are shown from one period to the next.
use Rattle.std.specs.Prelude.{◌≡◌, ◌≢◌, ◌≤◌, ◌<◌, ℕ, zero, suc, ℤ, ◌+ℤ◌, ◌<ℤ◌, List, [], ◌∷◌, ◌++◌, true, false, Option, Some, None, option_map, IfSome, Contains, slice_get, slice_index, length, unsigned_abs}
use Rattle.zic_base.specs.declared.fault.Kind.{Kind}
use Rattle.zic_base.specs.declared.fault.Kind.TheVariants as kind
use Rattle.zic_lines.specs.declared.rule_line.Rule.{Rule}
use Rattle.zic_lines.specs.declared.zone_line.ZoneLine.{ZoneLine}
use Rattle.zic_lines.specs.declared.time.TheConstants.{GREATEST_OFFSET}
use Rattle.zic_states.specs.Abbreviation.{abbreviation}
use Rattle.zic_lines.specs.Limits.{is_abbreviation}
use Rattle.zic_states.specs.Change.{Change}
use Rattle.zic_states.specs.End.{IsEnd}
use Rattle.zic_states.specs.Fault.{HasOffsetOutOfRange, HasNoLetter, HasBadAbbreviation, IsSavingOf, IsSound}
use Rattle.zic_states.specs.InForce.{InForce, IsInForceBy}
use Rattle.zic_states.specs.Laws.{IsOrderly}
use Rattle.zic_states.specs.Refusal.{IsRefusal}
use Rattle.zic_base.specs.State.{Shown}
use Rattle.zic_states.specs.Zone.{Zone, Shows}
use Rattle.zic_rules.specs.declared.changes.DatedState.{DatedState}
use Rattle.zic_rules.specs.declared.line.Period.{Period}
use Rattle.zic_rules.specs.declared.line.Periods.{Periods}
use Rattle.zic_rules.specs.declared.zone_state.ZoneState.{ZoneState}
use Rattle.zic_rules.specs.code.Period.{ArePeriods, Holds}
use Rattle.zic_rules.specs.code.Held.{IsFrom, ComesAfter}

-- the state that a state of the code stands for
abbrev pub shown_by : ZoneState → Shown
shown_by s = record { offset = s.offset; daylight = s.daylight; name = s.name }

-- a change of the code as it is defined
abbrev pub dated : DatedState → Change
dated d = record { instant = d.instant; state = shown_by d.state }

-- The line shows this state by this rule, or before all occurrences.
pub record IsShownBy (rules : List Rule) (line : ZoneLine) (rule : Option ℕ) (state : Shown) : Type 0 where
  pub in_force : InForce
  pub is_in_force : IsInForceBy rules line.rules rule in_force
  pub offset : state.offset ≡ line.offset +ℤ in_force.saving
  pub daylight : state.daylight ≡ in_force.daylight
  pub name : abbreviation line.format state.offset in_force.daylight in_force.letter ≡ Some state.name

-- By this rule the line's FORMAT gives no abbreviation, for this reason.
pub record IsRefusedBy (rules : List Rule) (line : ZoneLine) (rule : Option ℕ) (reason : Kind) : Type 0 where
  pub in_force : InForce
  pub is_in_force : IsInForceBy rules line.rules rule in_force
  pub offset : ℤ
  pub total : offset ≡ line.offset +ℤ in_force.saving
  pub refused : IsRefusal (abbreviation line.format offset in_force.daylight in_force.letter) reason

-- The line's standard offset is within 24 hours together with each saving of its RULES.
abbrev pub IsInRangeOn : List Rule → ZoneLine → Type 0
IsInRangeOn rules line = (saving : ℤ) → IsSavingOf rules line.rules saving → unsigned_abs (line.offset +ℤ saving) ≤ GREATEST_OFFSET

-- With some saving of its RULES it passes 24 hours.
abbrev pub IsOutOfRangeOn : List Rule → ZoneLine → Type 0
IsOutOfRangeOn rules line = (saving : ℤ) × IsSavingOf rules line.rules saving × (GREATEST_OFFSET < unsigned_abs (line.offset +ℤ saving))

-- An offset is within 24 hours together with the saving of each of the rules of the first n of these numbers.
abbrev pub AreAllInRange : List Rule → ℤ → List ℕ → ℕ → Type 0
AreAllInRange rules offset numbers n = (k : ℕ) (rule : Rule) → k < n → slice_get rules (slice_index numbers k) ≡ Some rule
    → unsigned_abs (offset +ℤ rule.saving.seconds) ≤ GREATEST_OFFSET

-- With the saving of the rule of one of the numbers it passes 24 hours.
abbrev pub IsOneOutOfRange : List Rule → ℤ → List ℕ → Type 0
IsOneOutOfRange rules offset numbers = (n : ℕ) × (rule : Rule) × Contains numbers n × (slice_get rules n ≡ Some rule)
    × (GREATEST_OFFSET < unsigned_abs (offset +ℤ rule.saving.seconds))

-- The periods of a zone are known, and no fault before theirs applies.
pub record HasPeriods (zone : Zone) (all : Periods) : Type 0 where
  pub in_range : HasOffsetOutOfRange zone → ⊥
  pub orderly : IsOrderly zone
  pub is_end : IsEnd zone all.end
  pub periods : ArePeriods zone all.end all.list.items

-- At some instant the line of this number holds by this rule.
abbrev pub IsHeld : Zone → ℕ → Option ℕ → Type 0
IsHeld zone number rule = (t : ℤ) × Holds zone t number rule

-- At every instant at which the line of this number holds by this rule, the zone shows this.
abbrev pub ShowsWhereHeld : Zone → ℕ → Option ℕ → Shown → Type 0
ShowsWhereHeld zone number rule state = (t : ℤ) → Holds zone t number rule → Shows zone t state

-- At some instant there is no letter, or else no abbreviation.
abbrev pub IsUnnamed : Zone → Kind → Type 0
IsUnnamed zone kind.NoLetter = HasNoLetter zone
IsUnnamed zone kind.BadAbbreviation = HasBadAbbreviation zone
IsUnnamed zone _ = ⊥

-- Where the line of this number holds by this rule there is no letter, or else no abbreviation.
abbrev pub IsUnnamedAt : Zone → ℕ → Option ℕ → Kind → Type 0
IsUnnamedAt zone number rule kind.NoLetter = HasNoLetter zone
IsUnnamedAt zone number rule kind.BadAbbreviation =
    (state : Shown) × ShowsWhereHeld zone number rule state × (is_abbreviation state.name ≡ false)
IsUnnamedAt zone number rule _ = ⊥

-- The zone shows this state, whose name is an abbreviation.
abbrev pub ShowsNamed : Zone → ℤ → Shown → Type 0
ShowsNamed zone t state = Shows zone t state × (is_abbreviation state.name ≡ true)

-- From `start` to the first change this state is so, from each change to the next its own, which differs, and from the last up to
-- the end.
abbrev pub AreSoFrom : (ℤ → Shown → Type 0) → ℤ → Option ℤ → Shown → List Change → Type 0
AreSoFrom IsSo end start state [] = (t : ℤ) → IsFrom start t → t <ℤ end → IsSo t state
AreSoFrom IsSo end start state (c ∷ cs) =
    ComesAfter start c.instant × (c.instant <ℤ end) × (state ≢ c.state)
    × ((t : ℤ) → IsFrom start t → t <ℤ c.instant → IsSo t state)
    × AreSoFrom IsSo end (Some c.instant) c.state cs

-- where the period before this place begins, if there is one
abbrev pub from_of : List Period → ℕ → Option ℤ
from_of ss zero = None
from_of ss (suc k) = option_map (λ s. s.from) (slice_get ss k)

-- up to the period at this place, if there is one, and the end
abbrev pub IsUpTo : Periods → ℕ → ℤ → Type 0
IsUpTo all i t = (t <ℤ all.end) × IfSome (slice_get all.list.items i) (λ s. t <ℤ s.from)

-- From the period before this place on, up to that at this place, the state is so.
abbrev pub IsSoTo : (ℤ → Shown → Type 0) → Periods → ℕ → Shown → Type 0
IsSoTo IsSo all i state = (t : ℤ) → IsFrom (from_of all.list.items i) t → IsUpTo all i t → IsSo t state

-- the changes so far, up to the period at this place, where the state `last` is shown before it: they go on with any later ones
pub record AreChangesSoFar (zone : Zone) (all : Periods) (first : Shown) (i : ℕ) (last : Shown) (cs : List Change) : Type 0 where
  pub so : IsSoTo (ShowsNamed zone) all i last
  pub later : (rest : List Change) → AreSoFrom (ShowsNamed zone) all.end (from_of all.list.items i) last rest
      → AreSoFrom (ShowsNamed zone) all.end None first (cs ++ rest)

-- Before the period at this place the zone shows some state at each instant.
abbrev pub ShowsSomeTo : Zone → Periods → ℕ → Type 0
ShowsSomeTo zone all i = (t : ℤ) → IsUpTo all i t → (state : Shown) × Shows zone t state

-- before its end the zone shows some state at each instant
abbrev pub ShowsSomeBefore : Zone → ℤ → Type 0
ShowsSomeBefore zone end = (t : ℤ) → t <ℤ end → (state : Shown) × Shows zone t state

-- the states and changes of a timeline
pub record IsTimeline (zone : Zone) (end : ℤ) (first : Shown) (cs : List Change) : Type 0 where
  pub is_zone : zone.number < length zone.source.zones
  pub sound : IsSound zone
  pub orderly : IsOrderly zone
  pub is_end : IsEnd zone end
  pub so : AreSoFrom (ShowsNamed zone) end None first cs
