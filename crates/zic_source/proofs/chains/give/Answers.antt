use Rattle.std.proofs.Common.{◌<◌, ℕ, length, get_or, List, Some, sym, subst, arith, rules}
use Rattle.std.specs.Prelude.{Contains}
use Rattle.std.proofs.lemmas.List.Elements.{Contains-get_or}
use Rattle.std.proofs.lemmas.List.{take_all}
use Rattle.zic_source.proofs.links.Walks.{given_more, differ_more}
use Rattle.zic_source.proofs.chains.give.Goals as goal

pub bounds-ends-link : goal.bounds-ends-link
bounds-ends-link c =
    let within : get_or c.args.path.now c.loop-link.link-index 0 < length c.args.ends.now = c.requires _ (Contains-get_or c.args.path.now c.loop-link.link-index 0 (search rules)) in omega (arith, c.loop-link.auto.ends)

pub offset_bounds-ends-link : goal.offset_bounds-ends-link
offset_bounds-ends-link c =
    let within : get_or c.args.path.now c.loop-link.link-index 0 < length c.args.ends.now = c.requires _ (Contains-get_or c.args.path.now c.loop-link.link-index 0 (search rules)) in
    let there : get_or c.args.path.now c.loop-link.link-index 0 < length c.loop-link.ends = omega (arith, c.loop-link.auto.ends) in search rules

pub loop-link-preserved : goal.loop-link-preserved
loop-link-preserved c =
    let at : ℕ = get_or c.args.path.now c.loop-link.link-index 0 in
    let here : Contains c.args.path.now at = Contains-get_or c.args.path.now c.loop-link.link-index 0 (search rules) in
    let within : at < length c.loop-link.ends = omega (arith, c.requires at here, c.loop-link.auto.ends) in
    let known : at < length c.args.ends.now = c.requires at here in
    record {
      given = given_more c.args.path.now c.loop-link.ends c.loop-link.link-index c.args.end (search rules) within c.loop-link.invariant.given;
      others = differ_more c.args.path.now c.args.ends.now c.loop-link.ends at (Some c.args.end) here c.loop-link.invariant.others;
    }

pub returns-clause-given : goal.returns-clause-given
returns-clause-given c = λ i has. c.loop-link.invariant.given i (subst (λ (xs : List ℕ). Contains xs i) (sym (take_all c.loop-link.link-index c.args.path.now (omega arith))) has)
