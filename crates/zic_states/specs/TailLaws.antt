-- Laws of what a zone shows from its explicit end on: each is the contract of a function of the module `tail_laws`.
use Rattle.std.specs.Prelude.{◌<◌, ℕ, ℤ, pos, ◌+ℤ◌, ◌-ℤ◌, ◌<ℤ◌, ◌≤ℤ◌, List, length}
use Rattle.zic_lines.specs.declared.rule_line.Rule.{Rule}
use Rattle.zic_lines.specs.declared.zone_line.ZoneLine.{ZoneLine}
use Rattle.zic_states.specs.OccurrenceLaws.{IsLastOccurrence}
use Rattle.zic_states.specs.Occurrence.{Occurrence, IsOccurrence, nominal, year_second}
use Rattle.zic_states.specs.Change.{IsChange, IsAfterChanges}
use Rattle.zic_states.specs.End.{IsLastLine, IsEnd}
use Rattle.zic_states.specs.Fault.{HasNoLetter, HasBadAbbreviation}
use Rattle.zic_states.specs.InForce.{InForce, in_force_of}
use Rattle.zic_states.specs.Laws.{HasSetsInOrder, IsOrderly}
use Rattle.zic_base.specs.State.{Shown}
use Rattle.zic_states.specs.Tail.{HasContinuing, IsOnlyContinuing, HasNoSet, HasLastSet, HasInForceFrom, HasInForceByContinuing, Alternate, FollowsAnother, Repeats}
use Rattle.zic_states.specs.Until.{set_of}
use Rattle.zic_states.specs.Zone.{Zone, HasBegun, Governs, ZoneHasInForce, Shows}

-- From its start on the last line governs, and so it does from one second before the explicit end on.
pub record LastLineGoverns : Type 0 where
  pub from_start : (zone : Zone) (i : ℕ) (line : ZoneLine) (t : ℤ) → IsLastLine zone i line → HasBegun zone i t
      → Governs zone i line t
  pub from_end : (zone : Zone) → HasSetsInOrder zone → (i : ℕ) (line : ZoneLine) (end t : ℤ) → IsLastLine zone i line
      → IsEnd zone end → (end -ℤ pos 1) ≤ℤ t → Governs zone i line t

-- A last line without a set has one and the same thing in force from its start on.
abbrev pub FixedTail : Type 0
FixedTail =
    (zone : Zone) → IsOrderly zone → (i : ℕ) (line : ZoneLine) → IsLastLine zone i line → HasNoSet line.rules
    → (in_force : InForce) × ((start : ℤ) → HasBegun zone i start → HasInForceFrom zone start line in_force)

-- Where a rule of the last line's set goes on for ever, from one second before the end on the zone has in force what an occurrence of such
-- a rule begins, of a year after the last one named.
abbrev pub ByContinuing : Type 0
ByContinuing =
    (zone : Zone) → IsOrderly zone → (i : ℕ) (line : ZoneLine) (name : List ℕ) (year : ℤ) → HasLastSet zone i line name year
    → HasContinuing (set_of zone.source.rules name)
    → (t : ℤ) → (year_second (year +ℤ pos 3) -ℤ pos 1) ≤ℤ t → HasInForceByContinuing zone t line name year

-- Where just one does, from one second before the end on the zone has in force what this rule brings.
abbrev pub ByOne : Type 0
ByOne =
    (zone : Zone) → IsOrderly zone → (i : ℕ) (line : ZoneLine) (name : List ℕ) (year : ℤ) → HasLastSet zone i line name year
    → (number : ℕ) (rule : Rule) → IsOnlyContinuing (set_of zone.source.rules name) number rule
    → HasInForceFrom zone (year_second (year +ℤ pos 3) -ℤ pos 1) line (in_force_of rule)

-- Where none does, from one second before the end on the zone has one and the same thing in force.
abbrev pub ByNone : Type 0
ByNone =
    (zone : Zone) → IsOrderly zone → (i : ℕ) (line : ZoneLine) (name : List ℕ) (year : ℤ) → HasLastSet zone i line name year
    → (HasContinuing (set_of zone.source.rules name) → ⊥)
    → (in_force : InForce) × HasInForceFrom zone (year_second (year +ℤ pos 3) -ℤ pos 1) line in_force

-- All that is in force at some instant is in force before the end; so all that it shows at some instant it shows before the end, and a
-- fault of some instant is one of an instant before the end.
pub record InForceBefore : Type 0 where
  pub keeps : (zone : Zone) → IsOrderly zone → (end : ℤ) → IsEnd zone end → (t : ℤ) (line : ZoneLine) (in_force : InForce)
      → ZoneHasInForce zone t line in_force → (u : ℤ) × (u <ℤ end) × ZoneHasInForce zone u line in_force
  pub shows : (zone : Zone) → IsOrderly zone → (end : ℤ) → IsEnd zone end → (t : ℤ) (state : Shown) → Shows zone t state
      → (u : ℤ) × (u <ℤ end) × Shows zone u state
  pub no_letter : (zone : Zone) → IsOrderly zone → (end : ℤ) → IsEnd zone end → HasNoLetter zone
      → (fault : HasNoLetter zone) × (fault.t <ℤ end)
  pub bad_abbreviation : (zone : Zone) → IsOrderly zone → (end : ℤ) → IsEnd zone end → HasBadAbbreviation zone
      → (fault : HasBadAbbreviation zone) × (fault.t <ℤ end)

-- The states of a zone come again after 400 years, from one second before the end on; and where a rule of the last line's set goes on
-- for ever, from the last occurrence before the end on.
pub record RepeatsForEver : Type 0 where
  pub from_end : (zone : Zone) → IsOrderly zone → (end : ℤ) → IsEnd zone end → Repeats zone (end -ℤ pos 1)
  pub from_last : (zone : Zone) → IsOrderly zone → (i : ℕ) (line : ZoneLine) (name : List ℕ) (year : ℤ)
      → HasLastSet zone i line name year → HasContinuing (set_of zone.source.rules name) → (o : Occurrence) (start : ℤ)
      → IsLastOccurrence (set_of zone.source.rules name) line.offset (year_second (year +ℤ pos 3) -ℤ pos 1) o start
      → Repeats zone start

-- Where rules of the last line's set go on for ever and alternate, each occurrence from the last before the end on follows one of
-- another rule.
abbrev pub AlternatesForEver : Type 0
AlternatesForEver =
    (zone : Zone) → IsOrderly zone → (i : ℕ) (line : ZoneLine) (name : List ℕ) (year : ℤ) → HasLastSet zone i line name year
    → HasContinuing (set_of zone.source.rules name) → Alternate (set_of zone.source.rules name) year → (o : Occurrence) (u : ℤ)
    → IsLastOccurrence (set_of zone.source.rules name) line.offset (year_second (year +ℤ pos 3) -ℤ pos 1) o u
    → (q : Occurrence) → IsOccurrence (set_of zone.source.rules name) q → nominal o ≤ℤ nominal q
    → FollowsAnother (set_of zone.source.rules name) year q

-- The state at an instant before the end is shown since the last change.
abbrev pub StaysSinceChange : Type 0
StaysSinceChange =
    (zone : Zone) → IsOrderly zone → zone.number < length zone.source.zones → (HasNoLetter zone → ⊥)
    → (end s t : ℤ) → IsEnd zone end → s ≤ℤ t → t <ℤ end → ((u : ℤ) → IsChange zone u → s <ℤ u → t <ℤ u)
    → (state : Shown) → Shows zone t state → Shows zone s state

-- A zone that has one thing in force from one second before the end on shows one state after all changes.
abbrev pub OneStateAfterChanges : Type 0
OneStateAfterChanges =
    (zone : Zone) → IsOrderly zone → zone.number < length zone.source.zones → (HasNoLetter zone → ⊥)
    → (end : ℤ) (line : ZoneLine) (in_force : InForce) → IsEnd zone end → HasInForceFrom zone (end -ℤ pos 1) line in_force
    → (state : Shown) → Shows zone (end -ℤ pos 1) state → (t : ℤ) → IsAfterChanges zone t → Shows zone t state
