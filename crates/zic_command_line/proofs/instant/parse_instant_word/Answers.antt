use Rattle.std.proofs.Common.{rules}
use Rattle.zic_command_line.proofs.instant.parse_instant_word.Goals as goal

pub returns-clause-just : goal.returns-clause-just
returns-clause-just c = search rules
