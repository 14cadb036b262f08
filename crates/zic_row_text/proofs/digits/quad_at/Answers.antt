use Rattle.std.proofs.Common.{◌∙◌, ap₂, sym}
use Rattle.zic_row_text.proofs.PairNumbers.{joined_numbers, quad_of}
use Rattle.zic_row_text.proofs.digits.quad_at.Goals as goal

pub returns-in_default-clause-value : goal.returns-in_default-clause-value
returns-in_default-clause-value c =
    ap₂ joined_numbers (sym c.in_default.is-0 ∙ c.pair_at.ensures.value) (sym c.in_default.is-1 ∙ c.pair_at-2.ensures.value) ∙ sym (quad_of c.args.text.now c.args.at c.requires)

pub returns-in_default-2-clause-value : goal.returns-in_default-2-clause-value
returns-in_default-2-clause-value c =
    ap₂ joined_numbers (sym c.in_default.is-0 ∙ c.pair_at.ensures.value) c.pair_at-2.ensures.value ∙ sym (quad_of c.args.text.now c.args.at c.requires)

pub returns-clause-value : goal.returns-clause-value
returns-clause-value c =
    rw (c.from.ensures, c.from-2.ensures)
    (ap₂ joined_numbers (sym c.in-Some-Some.is-0 ∙ c.pair_at.ensures.value) (sym c.in-Some-Some.is-1 ∙ c.pair_at-2.ensures.value) ∙ sym (quad_of c.args.text.now c.args.at c.requires))
