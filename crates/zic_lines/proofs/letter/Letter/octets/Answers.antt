use Rattle.std.proofs.Common.{rules}
use Rattle.zic_lines.proofs.letter.Letter.octets.Goals as goal

pub returns-clause-octets : goal.returns-clause-octets
returns-clause-octets c = search rules

pub returns-clause-letter : goal.returns-clause-letter
returns-clause-letter c = search rules
