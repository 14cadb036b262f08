use Rattle.zic_columns.proofs.FirstFacts.{quoted_ended, quoted_unended}
use Rattle.zic_columns.proofs.pieces.quoted_len.Goals as goal

pub returns-in-Ok : goal.returns-in-Ok
returns-in-Ok c = quoted_ended c.args.delimiter.can c.args.bytes.now c.in-Ok.len c.requires c.in-Ok.ensures

pub returns-in-Err : goal.returns-in-Err
returns-in-Err c = quoted_unended c.args.delimiter.can c.args.bytes.now c.in-Err.field-0 c.requires c.in-Err.ensures
