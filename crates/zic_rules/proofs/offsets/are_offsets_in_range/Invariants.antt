-- The lines before this one are in range.
use Rattle.std.proofs.Common.{◌≡◌, ℕ, ◌<◌, Some}
use Rattle.zic_lines.specs.declared.zone_line.ZoneLine.{ZoneLine}
use Rattle.zic_states.specs.Zone.{line_at}
use Rattle.zic_rules.specs.code.Period.{the_zone}
use Rattle.zic_rules.specs.code.Shown.{IsInRangeOn}
use Rattle.zic_rules.proofs.offsets.are_offsets_in_range.Given as goal

abbrev pub invariant-loop-number : goal.invariant-loop-number
invariant-loop-number l = (i : ℕ) (line : ZoneLine) → i < l.number → line_at (the_zone l.zone) i ≡ Some line → IsInRangeOn l.zone.source.now.rules line
