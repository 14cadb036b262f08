use Rattle.std.proofs.Common.{◌≡◌, ◌<◌, ℕ, List, Option, Some, ◌⊎◌, inl, inr, ⊎_elim, length, sym, subst, ◌∙◌, arith}
use Rattle.std.specs.Prelude.{Contains, slice_get}
use Rattle.std.proofs.lemmas.Option.{same_Some}
use Rattle.zic_source.specs.Source.{SourceLines}
use Rattle.zic_source.specs.declared.chains.End.{End}
use Rattle.zic_source.specs.code.Lines.{source_lines}
use Rattle.zic_source.specs.code.Chains.{ChainEnds, IsFound, HasEnd, AreRight, DifferOn}
use Rattle.zic_source.proofs.chains.settle.Goals as goal

-- The path is followed, and then given the end.
module _ (source : SourceLines) (old followed given : List (Option End)) (path : List ℕ) (end : End)
    (first : DifferOn path old followed) (second : DifferOn path followed given) (written : (i : ℕ) → Contains path i → IsFound given i end) where
  on_path : (i : ℕ) → Contains path i ⊎ (slice_get given i ≡ slice_get old i)
  on_path i = ⊎_elim (λ has. inl has) (λ late. ⊎_elim (λ has. inl has) (λ early. inr (late ∙ early)) (first i)) (second i)

  all_right : AreRight source old → ((i : ℕ) → Contains path i → ChainEnds source i end) → AreRight source given
  all_right right ends i other found = ⊎_elim
      (λ has. subst (ChainEnds source i) (same_Some end other (same_Some (Some end) (Some other) (sym (written i has) ∙ found))) (ends i has))
      (λ same. right i other (sym same ∙ found))
      (on_path i)

  all_unchanged : (i : ℕ) → HasEnd old i → HasEnd given i
  all_unchanged i has_end = ⊎_elim (λ has. (end, written i has)) (λ same. (has_end.0, same ∙ has_end.1)) (on_path i)

  one_found : (i : ℕ) → HasEnd followed i → HasEnd given i
  one_found i has_end = ⊎_elim (λ has. (end, written i has)) (λ same. (has_end.0, same ∙ has_end.1)) (second i)

pub give-requires : goal.give-requires
give-requires c = λ i has.
    let within : i < length c.args.lines.now.links.items = c.in_ok-end.ensures.within i (subst (λ (xs : List ℕ). Contains xs i) c.deref.ensures.value has) in
    omega (arith, c.follow.auto.ends, c.requires.long)

pub returns-clause-right : goal.returns-clause-right
returns-clause-right c =
    all_right (source_lines c.args.lines.now) c.args.ends.now c.follow.new.ends c.give.new.ends c.deref.result.now c.in_ok-end.end
    (subst (λ (xs : List ℕ). DifferOn xs c.args.ends.now c.follow.new.ends) (sym c.deref.ensures.value) c.in_ok-end.ensures.others) c.give.ensures.others c.give.ensures.given
    c.requires.right
    (subst (λ (xs : List ℕ). (i : ℕ) → Contains xs i → ChainEnds (source_lines c.args.lines.now) i c.in_ok-end.end) (sym c.deref.ensures.value) c.in_ok-end.ensures.right)

pub returns-clause-found : goal.returns-clause-found
returns-clause-found c =
    one_found (source_lines c.args.lines.now) c.args.ends.now c.follow.new.ends c.give.new.ends c.deref.result.now c.in_ok-end.end
    (subst (λ (xs : List ℕ). DifferOn xs c.args.ends.now c.follow.new.ends) (sym c.deref.ensures.value) c.in_ok-end.ensures.others) c.give.ensures.others c.give.ensures.given
    c.args.link c.in_ok-end.ensures.found

pub returns-clause-unchanged : goal.returns-clause-unchanged
returns-clause-unchanged c =
    all_unchanged (source_lines c.args.lines.now) c.args.ends.now c.follow.new.ends c.give.new.ends c.deref.result.now c.in_ok-end.end
    (subst (λ (xs : List ℕ). DifferOn xs c.args.ends.now c.follow.new.ends) (sym c.deref.ensures.value) c.in_ok-end.ensures.others) c.give.ensures.others c.give.ensures.given
