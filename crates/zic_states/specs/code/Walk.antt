-- The walk through the occurrences of a line's set up to its UNTIL.
use Rattle.std.specs.Prelude.{◌≡◌, ◌+◌, List, ℕ}
use Rattle.zic_lines.specs.declared.rule_line.Rule.{Rule}
use Rattle.zic_lines.specs.declared.rules.Rules.TheVariants.{Set}
use Rattle.zic_lines.specs.declared.until.Until.{Until}
use Rattle.zic_lines.specs.declared.zone_line.ZoneLine.{ZoneLine}
use Rattle.zic_states.specs.declared.occurrence.TimedOccurrence.{TimedOccurrence}
use Rattle.zic_states.specs.Order.{IsInOrder}
use Rattle.zic_states.specs.Listing.{AreOccurrencesTo}
use Rattle.zic_states.specs.Until.{set_of}

-- The line names a set, which is in order on it, and the list has the set's occurrences to a year after that of the UNTIL.
pub record AreOccurrencesOfSet (rules : List Rule) (line : ZoneLine) (until : Until) (xs : List TimedOccurrence) : Type 0 where
  pub name : List ℕ
  pub has_set : line.rules ≡ Set name
  pub in_order : IsInOrder (set_of rules name) line.offset
  pub listed : AreOccurrencesTo (set_of rules name) line.offset (until.year + 2) xs
