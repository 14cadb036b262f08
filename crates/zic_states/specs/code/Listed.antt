-- The occurrences of a line, and the time in which the line isn't over.
use Rattle.std.specs.Prelude.{◌*◌, ℤ, pos, ◌+ℤ◌, ◌<ℤ◌, ◌≤ℤ◌, ◌↔◌, List}
use Rattle.zic_lines.specs.declared.rule_line.Rule.{Rule}
use Rattle.zic_lines.specs.declared.rules.Rules.{Rules}
use Rattle.zic_lines.specs.declared.rules.Rules.TheVariants.{Standard, Amount, Set}
use Rattle.zic_lines.specs.declared.zone_line.ZoneLine.{ZoneLine}
use Rattle.zic_states.specs.declared.occurrence.TimedOccurrence.{TimedOccurrence}
use Rattle.zic_states.specs.Order.{IsInOrder}
use Rattle.zic_states.specs.Listing.{AreOccurrencesBefore}
use Rattle.zic_states.specs.Until.{set_of}
use Rattle.zic_states.specs.Zone.{Zone, IsNotOver}

-- Of the instants up to t the line isn't over at just those before the limit.
abbrev pub IsLimit : Zone → ZoneLine → ℤ → ℤ → Type 0
IsLimit zone line limit t = (u : ℤ) → u ≤ℤ t → IsNotOver zone line u ↔ (u <ℤ limit)

-- Where RULES name a set, it is in order on a line of this standard offset, and these are its occurrences, in the order of their
-- instants: all whose instants are before the limit, and perhaps later ones.
abbrev pub AreListedFor : List Rule → ℤ → ℤ → Rules → List TimedOccurrence → Type 0
AreListedFor rules offset limit Standard xs = Unit {0}
AreListedFor rules offset limit (Amount saving) xs = Unit {0}
AreListedFor rules offset limit (Set name) xs =
    IsInOrder (set_of rules name) offset
    × (bound : ℤ) × ((limit +ℤ pos (2 * 86_400)) ≤ℤ bound) × AreOccurrencesBefore (set_of rules name) offset bound xs
