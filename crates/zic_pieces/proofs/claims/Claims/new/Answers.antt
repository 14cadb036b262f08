use Rattle.std.proofs.Common.{rules}
use Rattle.zic_pieces.proofs.claims.Claims.new.Goals as goal

pub returns-clause-claims : goal.returns-clause-claims
returns-clause-claims c = search rules

pub returns-clause-pass : goal.returns-clause-pass
returns-clause-pass c = search rules
