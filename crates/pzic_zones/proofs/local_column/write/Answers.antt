use Rattle.std.proofs.Common.{rules, FitsSigned, w64, pos, get_or, to_z-of_z}
use Rattle.pzic_zones.specs.Local.{IsInstantMeant, IsStatusMeant}
use Rattle.pzic_zones.proofs.Columns.{written-next}
use Rattle.pzic_zones.proofs.local_column.write.Goals as goal

pub loop-i-preserved : goal.loop-i-preserved
loop-i-preserved c =
    let l = c.loop-i in
    let meant = c.meant_by-meant in
    let fits : FitsSigned w64 meant.result.instant = search rules in
    let timely : FitsSigned w64 (get_or c.args.locals.now l.i (pos 0)) = search rules in
    let instant = simp to_z-of_z at meant.ensures.instant in
    let status = simp to_z-of_z at meant.ensures.status in
    rw (to_z-of_z fits) (written-next (IsInstantMeant c.args.zone.now c.args.choice) (IsStatusMeant c.args.zone.now c.args.choice) _ _ _ l.i (pos 0) meant.result.instant meant.result.status (search rules) instant status l.invariant)
