use Rattle.std.proofs.lemmas.Result.{on_ok_weaker}
use Rattle.zic_explain.proofs.shown.push_byte.Goals as goal

pub returns : goal.returns
returns c =
    on_ok_weaker c.push_ascii-5.result
    (λ stays shown. stays (c.in_ok-push_ascii-3.ensures (c.in_ok-push_ascii-2.ensures (c.in_ok-push_ascii.ensures shown)))) c.push_ascii-5.ensures
