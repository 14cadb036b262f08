use Rattle.std.proofs.Common.{to_z-of_z}
use Rattle.zic_local.proofs.Meant.{chosen_ok}
use Rattle.zic_local.proofs.due.chosen.Goals as goal

pub returns : goal.returns
returns c =
    rw c.ok.ensures.value
    (chosen_ok c.args.zone.now c.args.local c.args.choice c.instant.result (simp (to_z-of_z, c.ranges.local) at c.instant.ensures))
