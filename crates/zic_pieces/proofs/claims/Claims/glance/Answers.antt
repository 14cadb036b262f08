use Rattle.std.proofs.Common.{rules, arith}
use Rattle.zic_pieces.proofs.Steps.{glance_allowed}
use Rattle.zic_pieces.proofs.BetweenCalls.{between_glance}
use Rattle.zic_pieces.proofs.claims.Claims.glance.Goals as goal

pub load-requires : goal.load-requires
load-requires c = (search rules, omega arith, glance_allowed _ _ _ _ (omega arith))

pub invariant_of-pass : goal.invariant_of-pass
invariant_of-pass c = let l = c.load.ensures.2 in between_glance _ _ _ _ _ c.pass.invariant _ l.0 l.2 l.3

pub returns-clause-glanced : goal.returns-clause-glanced
returns-clause-glanced c = search rules

pub returns-clause-seen : goal.returns-clause-seen
returns-clause-seen c = search rules

pub returns-clause-sound : goal.returns-clause-sound
returns-clause-sound c = search rules
