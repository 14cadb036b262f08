use Rattle.std.proofs.Common.{rules, FitsSigned, w32, w64, get_or, pos, to_z-of_z}
use Rattle.pzic_zones.specs.Column.{IsOffsetAt, AreFlagsAt}
use Rattle.pzic_zones.proofs.Columns.{written-next}
use Rattle.pzic_zones.proofs.column.write_with.Goals as goal

pub loop-i-preserved : goal.loop-i-preserved
loop-i-preserved c =
    let l = c.loop-i in
    let next = c.next-last in
    let fits : FitsSigned w32 next.result.offset = search rules in
    let timely : FitsSigned w64 (get_or c.args.instants.now l.i (pos 0)) = search rules in
    let requested = simp to_z-of_z at next.ensures.requested in
    let reported = next.ensures.cached _ requested in
    (next.ensures.all, next.ensures.cached, rw (to_z-of_z fits) (written-next (IsOffsetAt c.args.zone.now) (AreFlagsAt c.args.zone.now) _ _ _ l.i (pos 0) next.result.offset next.result.flags (search rules) reported.offset reported.flags l.invariant.2))
