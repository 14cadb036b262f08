use Rattle.std.proofs.Common.{arith}
use Rattle.zic_columns.proofs.EndsFacts.{shows_block}
use Rattle.zic_columns.proofs.ends.FieldEnds.next_block.Goals as goal

pub returns-clause-shows : goal.returns-clause-shows
returns-clause-shows c =
    shows_block c.args.delimiter.byte c.args.bytes.now c.args.at c.args.self c.requires c.if-self-ne0.false (omega (arith, c.if-bytes-self-lt-BLOCK.false))
    c.field_ends_in-mask.result c.field_ends_in-mask.type_inv c.field_ends_in-mask.ensures
