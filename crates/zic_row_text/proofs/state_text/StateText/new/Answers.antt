use Rattle.std.proofs.Common.{◌≡◌, ◌+ℤ◌, ◌<◌, ◌^◌, FitsSigned, pos, unsigned_abs, w64, arith, rules, subst, sym, to_z-of_z, w32}
use Rattle.std.proofs.lemmas.Int.{fits_signed_from_abs, ints}
use Rattle.zic_base.specs.State.{Shown, shown}
use Rattle.zic_row_text.specs.code.Cached.{IsTextOf}
use Rattle.zic_row_text.proofs.RowTexts.{state_read}
use Rattle.zic_row_text.proofs.state_text.StateText.new.Goals as goal

pub invariant_of-result : goal.invariant_of-result
invariant_of-result c =
    let state = c.args.state in
    let written = c.write_text-len in
    let fits : FitsSigned w32 state.offset = search rules in
    let same = state_read (shown state) written.new.octets written.result written.ensures.text (omega (arith, written.ensures.fits, written.array_long)) in
    let shift : c.shift_of.result ≡ state.offset +ℤ pos 62_135_596_800 = rw (to_z-of_z fits) at c.shift_of.ensures in
    let near : unsigned_abs (state.offset +ℤ pos 62_135_596_800) < 2 ^ 63 = omega (arith, ints, c.requires.offset) in
    let far : FitsSigned w64 c.shift_of.result = subst (FitsSigned w64) (sym shift) (fits_signed_from_abs w64 (state.offset +ℤ pos 62_135_596_800) near) in
    rw (to_z-of_z fits, to_z-of_z far) (
      shift,
      (subst (λ (s : Shown). IsTextOf s written.new.octets written.result) (sym same) (record { may = c.requires; text = written.ensures.text; fits = written.ensures.fits }), tt),
    )

pub returns : goal.returns
returns c =
    let state = c.args.state in
    let written = c.write_text-len in
    let fits : FitsSigned w32 state.offset = search rules in
    rw (to_z-of_z fits) (state_read (shown state) written.new.octets written.result written.ensures.text (omega (arith, written.ensures.fits, written.array_long)))
