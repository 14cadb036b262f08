use Rattle.std.proofs.Common.{ℤ, pos, ◌-ℤ◌, to_z, of_z, to_z-of_z, w64, sym, subst}
use Rattle.zic_base.specs.declared.constants.TheConstants.{FARTHEST_FILE_OFFSET}
use Rattle.zic_local.specs.LocalTime.{AnswersLocal}
use Rattle.zic_local.specs.code.Walk.{with_gap}
use Rattle.zic_local.specs.declared.local_time.LocalInstants.{LocalInstants}
use Rattle.zic_local.proofs.Trying.{found_all, gap_all}
use Rattle.zic_local.proofs.indexed.instants_in.Goals as goal

pub returns-in-Unspecified : goal.returns-in-Unspecified
returns-in-Unspecified c =
    let content = c.args.zone.now in
    let local = to_z w64 (of_z w64 c.args.local) in
    let gap = c.gap_after.result in
    subst (λ (t : ℤ). AnswersLocal content t c.with_gap.result) (to_z-of_z c.ranges.local)
    (subst (λ (given : LocalInstants). AnswersLocal content local given) (sym c.with_gap.ensures)
    (subst (λ (given : LocalInstants). AnswersLocal content local (with_gap given gap)) (sym c.in-Unspecified.is)
    (gap_all content local c.requires.offsets (local -ℤ pos FARTHEST_FILE_OFFSET) gap c.gap_after.ensures c.in-Unspecified.ensures)))

pub returns-in_default : goal.returns-in_default
returns-in_default c =
    let content = c.args.zone.now in
    let local = to_z w64 (of_z w64 c.args.local) in
    let given = c.instants_by_offset-given.result in
    subst (λ (t : ℤ). AnswersLocal content t given) (to_z-of_z c.ranges.local)
    (found_all content local c.requires.offsets (local -ℤ pos FARTHEST_FILE_OFFSET) given c.in_default.not-Unspecified c.instants_by_offset-given.ensures)
