use Rattle.std.proofs.Common.{arith}
use Rattle.zic_columns.proofs.EndsFacts.{end_next, end_within, shows_rest}
use Rattle.zic_columns.proofs.ends.FieldEnds.known_end.Goals as goal

pub returns-clause-end : goal.returns-clause-end
returns-clause-end c = end_next c.args.delimiter.byte c.args.bytes.now c.args.at c.args.self.now c.requires (omega (arith, c.if-ends-eq0.false))

pub returns-clause-within : goal.returns-clause-within
returns-clause-within c = end_within c.args.delimiter.byte c.args.bytes.now c.args.at c.args.self.now c.requires (omega (arith, c.if-ends-eq0.false))

pub returns-clause-shows : goal.returns-clause-shows
returns-clause-shows c = shows_rest c.args.delimiter.byte c.args.bytes.now c.args.at c.args.self.now c.requires (omega (arith, c.if-ends-eq0.false))
