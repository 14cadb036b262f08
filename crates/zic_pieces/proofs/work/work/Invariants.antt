use Rattle.std.proofs.Common.{◌≡◌, ◌+◌, ◌-◌}
use Rattle.zic_pieces.specs.Events.{past}
use Rattle.zic_pieces.specs.Passes.{IsOf}
use Rattle.zic_pieces.specs.code.Work.{IsWork}
use Rattle.zic_pieces.proofs.work.work.Given as goal

abbrev pub invariant-loop-i : goal.invariant-loop-i
invariant-loop-i g l =
    IsOf l.claims l.pass × (l.pass.known.parts ≡ l.initial.pass.known.parts) × IsWork (g.T.Task.outcome l.task) l.pass.known.pieces l.pass.known.events l.values.items l.halt

abbrev pub decreases-loop-i : goal.decreases-loop-i
decreases-loop-i g l = l.pass.known.pieces + 1025 - past l.pass.known.events
