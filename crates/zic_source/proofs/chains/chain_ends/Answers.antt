use Rattle.std.proofs.Common.{◌≡◌, ◌<◌, ◌+◌, ℕ, List, length, Option, sym, ap, subst, ◌∙◌, arith, below_more}
use Rattle.std.specs.Vec.{with_items}
use Rattle.std.proofs.lemmas.List.{with_items_is}
use Rattle.zic_source.specs.declared.chains.End.{End}
use Rattle.zic_source.specs.code.Lines.{source_lines}
use Rattle.zic_source.specs.code.Chains.{HasEnd, AreRight}
use Rattle.zic_source.proofs.chains.chain_ends.Goals as goal

pub settle-requires-clause-right : goal.settle-requires-clause-right
settle-requires-clause-right c =
    subst (λ (xs : List (Option End)). AreRight (source_lines c.args.lines.now) xs) (sym c.deref_mut.ensures.value) c.loop-link.invariant.right

pub loop-link-preserved : goal.loop-link-preserved
loop-link-preserved c =
    let as_long : length c.settle.new.ends ≡ c.loop-link.ends.len = omega (arith, c.settle.auto.ends, ap length c.deref_mut.ensures.value, c.loop-link.ends.ok.0) in
    let same : (with_items c.loop-link.ends c.settle.new.ends).items ≡ c.settle.new.ends = with_items_is c.loop-link.ends c.settle.new.ends as_long in
    let later : (i : ℕ) → i < c.loop-link.link + 1 → HasEnd c.settle.new.ends i = below_more _ _
    (λ i lt. c.in_ok-settle.ensures.unchanged i (subst (λ (xs : List (Option End)). HasEnd xs i) (sym c.deref_mut.ensures.value) (c.loop-link.invariant.found i lt)))
    c.in_ok-settle.ensures.found in
    record {
      long = ap length same ∙ as_long ∙ c.loop-link.ends.ok.0 ∙ c.loop-link.invariant.long;
      found = λ i lt. subst (λ (xs : List (Option End)). HasEnd xs i) (sym same) (later i lt);
      right = subst (λ (xs : List (Option End)). AreRight (source_lines c.args.lines.now) xs) (sym same) c.in_ok-settle.ensures.right;
    }
