use Rattle.std.proofs.Common.{◌≡◌, arith, rules, w32, to_z, of_z}
use Rattle.std.proofs.lemmas.Int.{ints}
use mir.Val.{SFits}
use Rattle.zic_states.specs.Until.{set_of}
use Rattle.zic_states.proofs.Letters.{numbers_within}
use Rattle.zic_rules.proofs.TimelineOffsets.{set_in_range, set_out_of_range}
use Rattle.zic_rules.proofs.offsets.is_line_in_range.Goals as goal

pub are_totals_in_range-requires-clause-numbers : goal.are_totals_in_range-requires-clause-numbers
are_totals_in_range-requires-clause-numbers c =
    numbers_within (set_of c.args.source.now.rules c.in-Set.set) c.set_rules.result.now c.set_rules.ensures

pub returns-in-Set-clause-inside : goal.returns-in-Set-clause-inside
returns-in-Set-clause-inside c is =
    let offset = c.args.line.now.offset in
    let fits : SFits w32 offset = search rules in
    let same : to_z w32 (of_z w32 offset) ≡ offset = omega (arith, ints, fits) in
    set_in_range c.args.source.now.rules c.args.line.now (to_z w32 (of_z w32 offset)) c.in-Set.set c.set_rules.result.now same c.in-Set.is c.set_rules.ensures
    (c.are_totals_in_range.ensures.inside is)

pub returns-in-Set-clause-outside : goal.returns-in-Set-clause-outside
returns-in-Set-clause-outside c is =
    let offset = c.args.line.now.offset in
    let fits : SFits w32 offset = search rules in
    let same : to_z w32 (of_z w32 offset) ≡ offset = omega (arith, ints, fits) in
    set_out_of_range c.args.source.now.rules c.args.line.now (to_z w32 (of_z w32 offset)) c.in-Set.set c.set_rules.result.now same c.in-Set.is c.set_rules.ensures
    (c.are_totals_in_range.ensures.outside is)
