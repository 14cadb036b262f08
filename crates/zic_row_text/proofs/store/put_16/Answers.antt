use Rattle.std.proofs.Common.{arith}
use Rattle.zic_row_text.proofs.Stores.{stored_lanes}
use Rattle.zic_row_text.proofs.store.put_16.Goals as goal

pub returns-clause-written : goal.returns-clause-written
returns-clause-written c =
    stored_lanes c.args.text.now c.args.part c.args.at c.args.len (omega arith) (omega arith)
