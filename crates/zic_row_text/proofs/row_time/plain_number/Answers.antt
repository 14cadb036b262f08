use Rattle.std.proofs.Common.{◌≡◌, ◌+◌, ◌≤◌, get_or, length, sym, ◌∙◌, arith}
use Rattle.zic_row_text.specs.Count.{fraction_digits}
use Rattle.zic_row_text.proofs.PlainTimes.{plain_number_is}
use Rattle.zic_row_text.proofs.row_time.plain_number.Goals as goal
use Rattle.zic_row_text.proofs.row_time.plain_number.Goals.{else-digits-gt1-via-then-digits-gt1+else-digits-eq48, else-digits-gt1-via-else-digits-gt1}

pub returns : goal.returns
returns c =
    let digits = c.args.digits.now in
    let most = 18 + c.min-most.result in
    let bound : most ≤ 19 = omega (arith, c.min-most.ensures) in
    let enough : most ≤ 18 + fraction_digits c.args.unit = omega (arith, c.min-most.ensures, c.fraction_digits.ensures) in
    let first : get_or digits 0 0 ≡ 48 → length digits ≤ 1 =
    elim c.else-digits-gt1.branch [
      | else-digits-gt1-via-then-digits-gt1+else-digits-eq48 w ↦ λ zero_first. absurd (omega (arith, zero_first, w.if-digits-eq48.false))
      | else-digits-gt1-via-else-digits-gt1 w ↦ λ zero_first. omega (arith, w.if-digits-gt1.false)
    ]
    in
    plain_number_is c.args.unit most digits c.in_ok-n.n bound enough (sym c.short_number.ensures.value ∙ c.in_ok-n.was) first
