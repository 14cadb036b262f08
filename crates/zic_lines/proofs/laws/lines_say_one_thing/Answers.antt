use Rattle.zic_lines.proofs.Entries.{says_once}
use Rattle.zic_lines.proofs.laws.lines_say_one_thing.Goals as goal

pub returns : goal.returns
returns c = says_once
