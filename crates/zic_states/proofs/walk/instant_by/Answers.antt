use Rattle.std.proofs.Common.{arith}
use Rattle.std.proofs.lemmas.Int.{ints}
use Rattle.zic_states.proofs.walk.instant_by.Goals as goal

pub returns-in-Wall : goal.returns-in-Wall
returns-in-Wall c = rw c.in-Wall.is (omega (arith, ints))
