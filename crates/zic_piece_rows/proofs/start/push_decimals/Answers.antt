use Rattle.std.proofs.Common.{◌≡◌, ◌∙◌, ◌++◌, FitsSigned, List, ap, rules, to_z-of_z, ℕ}
use Rattle.std.specs.Fmt.{signed_decimal}
use Rattle.std.specs.Int.{w128}
use Rattle.std.proofs.lemmas.Result.{on_ok_weaker}
use Rattle.zic_piece_rows.proofs.RowFaults.{digits_pushed}
use Rattle.zic_piece_rows.proofs.start.push_decimals.Goals as goal

pub returns-in-Err : goal.returns-in-Err
returns-in-Err c =
    let old = c.args.text.now in
    let count : FitsSigned w128 c.args.count = search rules in
    let digits : c.as_bytes-in-Err.result.now ≡ signed_decimal c.args.count = c.as_bytes-in-Err.ensures.value ∙ (rw (to_z-of_z count) at c.format-in-Err.ensures.text) in
    on_ok_weaker c.push-in-Err.result
    (λ is. digits_pushed c.args.delimiter old (signed_decimal c.args.count) c.push.new.self c.push-in-Err.new.self c.in_ok-push.ensures (is ∙ ap (λ (l : List ℕ). c.push.new.self ++ l) digits))
    c.push-in-Err.ensures
