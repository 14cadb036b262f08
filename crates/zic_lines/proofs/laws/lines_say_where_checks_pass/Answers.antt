use Rattle.zic_lines.proofs.Entries.{line_said, says_passes}
use Rattle.zic_lines.proofs.laws.lines_say_where_checks_pass.Goals as goal

pub returns : goal.returns
returns c = λ awaited line. (λ said. says_passes awaited line said.0 said.1 said.2, line_said awaited line)
