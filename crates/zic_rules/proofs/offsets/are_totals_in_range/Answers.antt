use Rattle.std.proofs.Common.{◌≡◌, refl, arith, rules, w32, to_z, of_z}
use Rattle.std.proofs.lemmas.Int.{ints}
use mir.Val.{SFits}
use Rattle.zic_rules.proofs.TimelineOffsets.{in_range_more}
use Rattle.zic_rules.proofs.offsets.are_totals_in_range.Goals as goal

pub loop-number-preserved : goal.loop-number-preserved
loop-number-preserved c =
    let seconds = c.rule.result.now.saving.seconds in
    let fits : SFits w32 seconds = search rules in
    let same : to_z w32 (of_z w32 seconds) ≡ seconds = omega (arith, ints, fits) in
    in_range_more c.args.source.now.rules (to_z w32 (of_z w32 c.args.offset)) c.args.numbers.now c.loop-number.number-index c.rule.result.now
    c.loop-number.invariant c.rule.ensures.rule (to_z w32 (of_z w32 seconds)) same (c.if-not-is_total_in_range.ensures.inside refl)
