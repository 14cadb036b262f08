use Rattle.std.proofs.Common.{ℕ, ◌+◌, Option, sym, subst, ◌∙◌}
use Rattle.std.proofs.lemmas.Bool.{false≢true}
use Rattle.zic_states.specs.code.Letters.{IsFirstOfStandard}
use Rattle.zic_states.proofs.Letters.{first_more, found_more}
use Rattle.zic_states.proofs.observance.first_standard.Goals as goal
use Rattle.zic_states.proofs.observance.first_standard.Goals.{then-comes_first, else-comes_first}

pub loop-number-preserved : goal.loop-number-preserved
loop-number-preserved c =
    let rules = c.args.source.now.rules in
    let numbers = c.args.numbers.now in
    let i = c.loop-number.number-index in
    elim c.if-comes_first.branch [
      | then-comes_first w ↦
          subst (λ (found : Option ℕ). IsFirstOfStandard rules numbers (i + 1) found) (sym w.first-is)
          (first_more rules numbers i c.loop-number.first c.loop-number-test.true (c.comes_first.ensures.0 w.if-comes_first.true) c.loop-number.invariant)
      | else-comes_first w ↦
          subst (λ (found : Option ℕ). IsFirstOfStandard rules numbers (i + 1) found) (sym w.first-is)
          (found_more rules numbers i c.loop-number.first (λ comes. false≢true (sym w.if-comes_first.false ∙ c.comes_first.ensures.1 comes)) c.loop-number.invariant)
    ]
