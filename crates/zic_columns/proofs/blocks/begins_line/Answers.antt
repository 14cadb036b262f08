use Rattle.std.proofs.Common.{sym, ◌∙◌, arith}
use Rattle.zic_columns.proofs.RecordCounts.{after_byte, after_none}
use Rattle.zic_columns.proofs.blocks.begins_line.Goals as goal

pub returns-then-at-eq0 : goal.returns-then-at-eq0
returns-then-at-eq0 c = rw c.if-at-eq0.true (sym after_none)

pub returns-else-at-eq0 : goal.returns-else-at-eq0
returns-else-at-eq0 c = c.ends_line.ensures ∙ sym (after_byte c.args.bytes.now c.args.at (omega (arith, c.if-at-eq0.false)) c.requires)
