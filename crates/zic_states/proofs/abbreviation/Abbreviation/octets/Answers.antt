use Rattle.std.proofs.Common.{rules}
use Rattle.zic_states.proofs.abbreviation.Abbreviation.octets.Goals as goal

pub returns-clause-octets : goal.returns-clause-octets
returns-clause-octets c = search rules

pub returns-clause-abbreviation : goal.returns-clause-abbreviation
returns-clause-abbreviation c = search rules
