use Rattle.zic_columns.proofs.FirstFacts.{plain_ended, plain_unended}
use Rattle.zic_columns.proofs.pieces.record_len.Goals as goal

pub returns-in-None : goal.returns-in-None
returns-in-None c = plain_unended c.args.delimiter.can c.args.bytes.now c.requires c.in-None.ensures

pub returns-in-Some-2 : goal.returns-in-Some-2
returns-in-Some-2 c = plain_ended c.args.delimiter.can c.args.bytes.now c.in-Some.at c.requires c.in-Some.ensures c.if-bytes-at-eq34.false
