use Rattle.std.proofs.Common.{◌∙◌, ap, sym, List, ℕ, get_or, ◌+◌}
use Rattle.zic_base.specs.Number.{number}
use Rattle.zic_row_text.proofs.PairNumbers.{first_no_digit, pair_of, pair_read, second_no_digit}
use Rattle.zic_row_text.proofs.digits.pair_at.Goals as goal
use Rattle.zic_row_text.proofs.digits.pair_at.Goals.{then-not-is_ascii_digit-via-then-not-is_ascii_digit, then-not-is_ascii_digit-via-else-not-is_ascii_digit+then-not-is_ascii_digit-2}

pub returns-then-not-is_ascii_digit-clause-value : goal.returns-then-not-is_ascii_digit-clause-value
returns-then-not-is_ascii_digit-clause-value c =
    let text = c.args.text.now in
    let at = c.args.at in
    let pair = ap (λ (t : List ℕ). number 2 t) (pair_of text at c.requires) in
    sym
    (pair ∙ elim c.then-not-is_ascii_digit.branch [
      | then-not-is_ascii_digit-via-then-not-is_ascii_digit w ↦ first_no_digit (get_or text at 0) (get_or text (at + 1) 0) (sym c.is_ascii_digit.ensures.value ∙ w.if-not-is_ascii_digit.true)
      | then-not-is_ascii_digit-via-else-not-is_ascii_digit+then-not-is_ascii_digit-2 w ↦ second_no_digit (get_or text at 0) (get_or text (at + 1) 0) (sym w.is_ascii_digit-else-not-is_ascii_digit.ensures.value ∙ w.if-not-is_ascii_digit-2.true)
    ])

pub returns-clause-value : goal.returns-clause-value
returns-clause-value c =
    let text = c.args.text.now in
    let at = c.args.at in
    sym
    (ap (λ (t : List ℕ). number 2 t) (pair_of text at c.requires)
    ∙ pair_read (get_or text at 0) (get_or text (at + 1) 0) (sym c.is_ascii_digit.ensures.value ∙ c.if-not-is_ascii_digit.false) (sym c.is_ascii_digit-else-not-is_ascii_digit.ensures.value ∙ c.if-not-is_ascii_digit-2.false))
