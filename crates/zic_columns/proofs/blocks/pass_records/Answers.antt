use Rattle.zic_columns.proofs.RecordCounts.{lines_passed, none_passed}
use Rattle.zic_columns.proofs.blocks.pass_records.Goals as goal

pub returns-then-bytes-eq34 : goal.returns-then-bytes-eq34
returns-then-bytes-eq34 c = λ d can. none_passed can c.args.bytes.now c.args.most c.requires

pub returns : goal.returns
returns c = λ d can. lines_passed can c.args.bytes.now c.args.most c.count_records-counted.result c.split_lines.result.0.now c.split_lines.result.1.now c.count_records-counted.ensures c.split_lines.ensures
