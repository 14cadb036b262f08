use Rattle.std.proofs.Common.{arith}
use Rattle.zic_columns.proofs.SomeRecords.{few_records}
use Rattle.zic_columns.proofs.PieceRecords.{wholes_counted}
use Rattle.zic_columns.proofs.splits.Splitter.new.Goals as goal

pub returns-clause-few : goal.returns-clause-few
returns-clause-few c = omega (arith, few_records c.of.result.byte c.args.piece.now, wholes_counted c.of.result.byte c.args.piece.now)
