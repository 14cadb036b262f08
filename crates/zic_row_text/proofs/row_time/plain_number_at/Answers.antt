use Rattle.std.proofs.Common.{◌≡◌, ◌-◌, ◌+◌, ◌≤◌, get_or, length, ◌∙◌, ap, ℕ, arith}
use Rattle.std.specs.List.{slice_range}
use Rattle.std.proofs.lemmas.List.Edits.{get_or-between, length-between}
use Rattle.zic_row_text.proofs.PlainTimes.{plain_number_is}
use Rattle.zic_row_text.proofs.row_time.plain_number_at.Goals as goal

pub returns : goal.returns
returns c =
    let bytes = c.args.bytes.now in
    let start = c.args.start in
    let end = c.args.end in
    let text = slice_range bytes start end in
    let size : length text ≡ end - start = length-between bytes start end (omega arith) in
    let here : start + 0 ≡ start = omega arith in
    let at : get_or text 0 0 ≡ get_or bytes start 0 = get_or-between bytes start end 0 0 (omega arith) ∙ ap (λ (n : ℕ). get_or bytes n 0) here in
    let first : get_or text 0 0 ≡ 48 → length text ≤ 1 =
    λ zero_first. absurd (omega (arith, zero_first, at, c.if-bytes-start-eq48.false)) in
    plain_number_is c.args.unit 16 text c.in_ok-n.n (omega arith) (omega arith) c.in_ok-n.ensures first
