use Rattle.std.proofs.Common.{◌∙◌, ◌∷◌, ◌++◌, ℕ, List, FitsSigned, ap, rules, to_z-of_z, w32}
use Rattle.std.proofs.lemmas.Result.{on_ok_weaker}
use Rattle.zic_piece_rows.proofs.RowFields.{clock_is}
use Rattle.zic_piece_rows.proofs.text.push_clock.Goals as goal

pub returns : goal.returns
returns c =
    let time = c.args.time in
    let offset = c.args.offset in
    let d = c.args.delimiter in
    let local = c.local_time_at in
    let small : FitsSigned w32 offset = search rules in
    let pushed = rw (local.ensures.second, to_z-of_z small, local.ensures.fraction, local.ensures.unit) at c.push_local_time.ensures in
    on_ok_weaker c.push_local_time.result (λ is. is ∙ ap (λ (l : List ℕ). c.args.text.now ++ d ∷ l) (clock_is time offset)) pushed
