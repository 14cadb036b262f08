-- Laws of what zones show: each is the contract of a function of the module `laws`.
use Rattle.std.specs.Prelude.{◌≡◌, ℤ, pos, ◌-ℤ◌, List}
use Rattle.zic_base.specs.State.{Shown}
use Rattle.zic_source.specs.Sound.{IsSoundSource}
use Rattle.zic_lines.specs.Limits.{IsWithinLimits}
use Rattle.zic_states.specs.OccurrenceLaws.{IsLastOccurrence}
use Rattle.zic_states.specs.Occurrence.{Occurrence}
use Rattle.zic_states.specs.Change.{Change, IsChange, AreChanges, IsFirstState}
use Rattle.zic_states.specs.End.{IsEnd}
use Rattle.zic_states.specs.Fault.{IsSound}
use Rattle.zic_states.specs.Laws.{IsOrderly}
use Rattle.zic_states.specs.Tail.{Alternate}
use Rattle.zic_states.specs.Until.{set_of}
use Rattle.zic_states.specs.Zone.{Zone, Shows}
use Rattle.zic_rules.specs.Tail.{IsTailBy, AreOfBothFlags}
use Rattle.zic_rules.specs.Timeline.{IsWholeZone}
use Rattle.zic_rules.specs.declared.tail.TailRule.{TailRule}

-- A zone of a sound source to which no fault applies shows only states within these limits.
abbrev pub ShowsWithinLimits : Type 0
ShowsWithinLimits =
    (zone : Zone) → IsSoundSource zone.source → IsSound zone → (t : ℤ) (state : Shown) → Shows zone t state → IsWithinLimits state

-- Where just two rules go on for ever, of both flags and in turn, the last occurrence before the explicit end is a change.
abbrev pub LastIsChange : Type 0
LastIsChange =
    (zone : Zone) → IsOrderly zone → (standard year : ℤ) (tails : List TailRule) (by : IsTailBy zone standard year tails)
    → AreOfBothFlags tails → Alternate (set_of zone.source.rules by.name) by.last → (end : ℤ) → IsEnd zone end → (o : Occurrence) (u : ℤ)
    → IsLastOccurrence (set_of zone.source.rules by.name) standard (end -ℤ pos 1) o u → IsChange zone u

-- A zone has one first state at most, as `Timeline::end` and `Timeline::len` state that it is whole and that a list has its changes.
abbrev pub OneFirstState : Type 0
OneFirstState =
    (zone : Zone) → IsWholeZone zone → (changes : List Change) → AreChanges zone changes
    → (a b : Shown) → IsFirstState zone a → IsFirstState zone b → a ≡ b
