use Rattle.std.proofs.Common.{rules}
use Rattle.zic_lines.proofs.set_name.SetName.octets.Goals as goal

pub returns-clause-octets : goal.returns-clause-octets
returns-clause-octets c = search rules

pub returns-clause-name : goal.returns-clause-name
returns-clause-name c = search rules
