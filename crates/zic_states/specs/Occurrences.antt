-- The occurrences that decide what a line of a zone shows.
use Rattle.std.specs.Prelude.{◌+◌, List, IfSome}
use Rattle.zic_lines.specs.declared.rule_line.Rule.{Rule}
use Rattle.zic_lines.specs.declared.rules.Rules.{Rules}
use Rattle.zic_lines.specs.declared.rules.Rules.TheVariants.{Standard, Amount, Set}
use Rattle.zic_lines.specs.declared.zone_line.ZoneLine.{ZoneLine}
use Rattle.zic_states.specs.declared.occurrence.TimedOccurrence.{TimedOccurrence}
use Rattle.zic_states.specs.Order.{IsInOrder}
use Rattle.zic_states.specs.Listing.{AreOccurrencesTo}
use Rattle.zic_states.specs.Until.{set_of}

-- Where the RULES of the line name a set, it is in order on the line, and the list has its occurrences to a year after that of the
-- line's UNTIL, if there is one.
abbrev pub AreOccurrencesFor : List Rule → ZoneLine → Rules → List TimedOccurrence → Type 0
AreOccurrencesFor rules line Standard xs = Unit {0}
AreOccurrencesFor rules line (Amount saving) xs = Unit {0}
AreOccurrencesFor rules line (Set name) xs =
    IsInOrder (set_of rules name) line.offset
    × IfSome line.until (λ until. AreOccurrencesTo (set_of rules name) line.offset (until.year + 2) xs)
