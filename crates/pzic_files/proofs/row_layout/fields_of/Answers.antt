use Rattle.pzic_files.proofs.Layouts.{none_at}
use Rattle.pzic_files.proofs.row_layout.fields_of.Goals as goal

pub returns-in_default-clause-err : goal.returns-in_default-clause-err
returns-in_default-clause-err c = none_at c.args.numbers.now c.loop-number.number-index c.loop-number-test.true c.in_default.ensures
