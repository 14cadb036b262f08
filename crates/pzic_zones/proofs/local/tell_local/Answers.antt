use Rattle.std.proofs.Common.{rules, FitsSigned, w32, to_z-of_z, inl}
use Rattle.zic_local.specs.LocalTime.{IsInRange}
use Rattle.pzic_zones.proofs.local.tell_local.Goals as goal

pub returns : goal.returns
returns c =
    let inside : IsInRange c.args.local = search rules in
    let fits : FitsSigned w32 c.status_of.result = search rules in
    rw (to_z-of_z fits) (inl (inside, (c.instants-reported.result, simp (to_z-of_z, c.ranges.local) at c.instants-reported.ensures, c.status_of.ensures, c.new.ensures)))
