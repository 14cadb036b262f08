use Rattle.std.proofs.Common.{◌≤◌}
use Rattle.zic_converting.proofs.header_text.note_fields.Given as goal

-- the field that is read begins no later than the next byte
abbrev pub invariant-loop-index : goal.invariant-loop-index
invariant-loop-index l = l.start ≤ l.index
