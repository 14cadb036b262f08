use Rattle.std.proofs.Common.{◌∙◌, ap, arith, sym, Some}
use Rattle.std.proofs.lemmas.Int.{ints}
use Rattle.zic_row_text.proofs.UsualOffsets.{is_plus, usual}
use Rattle.zic_row_text.proofs.date_time.usual_offset.Goals as goal

pub returns-then-sign-eq45-clause-place : goal.returns-then-sign-eq45-clause-place
returns-then-sign-eq45-clause-place c =
    let is = usual c.args.field.now c.in_ok-place.place c.in_ok-hours.hours c.in_ok-minutes.minutes c.in_ok-place.ensures (sym c.is_sign.ensures ∙ c.if-not-is_sign.false) c.if-field-place-ne58.false
    c.in_ok-hours.ensures.value c.in_ok-minutes.ensures.value c.if-hours-gt23.false c.if-minutes-gt59.false in
    is.place

pub returns-then-sign-eq45-clause-value : goal.returns-then-sign-eq45-clause-value
returns-then-sign-eq45-clause-value c =
    let is = usual c.args.field.now c.in_ok-place.place c.in_ok-hours.hours c.in_ok-minutes.minutes c.in_ok-place.ensures (sym c.is_sign.ensures ∙ c.if-not-is_sign.false) c.if-field-place-ne58.false
    c.in_ok-hours.ensures.value c.in_ok-minutes.ensures.value c.if-hours-gt23.false c.if-minutes-gt59.false in
    is.west c.if-sign-eq45.true ∙ ap Some (omega (arith, ints, c.from.ensures, c.from-2.ensures, c.if-hours-gt23.false, c.if-minutes-gt59.false))

pub returns-else-sign-eq45-clause-place : goal.returns-else-sign-eq45-clause-place
returns-else-sign-eq45-clause-place c =
    let is = usual c.args.field.now c.in_ok-place.place c.in_ok-hours.hours c.in_ok-minutes.minutes c.in_ok-place.ensures (sym c.is_sign.ensures ∙ c.if-not-is_sign.false) c.if-field-place-ne58.false
    c.in_ok-hours.ensures.value c.in_ok-minutes.ensures.value c.if-hours-gt23.false c.if-minutes-gt59.false in
    is.place

pub returns-else-sign-eq45-clause-value : goal.returns-else-sign-eq45-clause-value
returns-else-sign-eq45-clause-value c =
    let is = usual c.args.field.now c.in_ok-place.place c.in_ok-hours.hours c.in_ok-minutes.minutes c.in_ok-place.ensures (sym c.is_sign.ensures ∙ c.if-not-is_sign.false) c.if-field-place-ne58.false
    c.in_ok-hours.ensures.value c.in_ok-minutes.ensures.value c.if-hours-gt23.false c.if-minutes-gt59.false in
    is.east (is_plus _ (sym c.is_sign.ensures ∙ c.if-not-is_sign.false) c.if-sign-eq45.false)
    ∙ ap Some (omega (arith, ints, c.from.ensures, c.from-2.ensures, c.if-hours-gt23.false, c.if-minutes-gt59.false))
