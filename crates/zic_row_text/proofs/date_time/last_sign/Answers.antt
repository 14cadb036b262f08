use Rattle.std.proofs.Common.{◌∙◌, ◌-◌, length, arith, sym}
use Rattle.zic_row_text.proofs.LastSigns.{last_here, no_sign}
use Rattle.zic_row_text.proofs.date_time.last_sign.Goals as goal

pub returns-then-is_sign-clause-value : goal.returns-then-is_sign-clause-value
returns-then-is_sign-clause-value c =
    let text = c.args.field.now in
    let within = c.loop-after-test.true in
    last_here text (length text - 1 - c.loop-after.after) (omega (arith, within)) (sym c.is_sign.ensures ∙ c.if-is_sign.true) (λ k behind below. c.loop-after.invariant k (omega (arith, behind, within)) below)

pub returns-clause-value : goal.returns-clause-value
returns-clause-value c = no_sign c.args.field.now (λ k low below. c.loop-after.invariant k (omega (arith, c.loop-after-test.false, low)) below)
