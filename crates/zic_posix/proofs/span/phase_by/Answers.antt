use Rattle.std.proofs.Common.{to_z-of_z}
use Rattle.zic_posix.proofs.span.phase_by.Goals as goal

pub returns-in-Some : goal.returns-in-Some
returns-in-Some c =
    (rw (to_z-of_z c.ranges.t) at c.phase_at.ensures) c.args.standard c.args.dst.now c.requires.standard c.requires.dst (rw c.in-Some.is at c.requires.years)
