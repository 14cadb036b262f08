use Rattle.std.proofs.lemmas.Result.{on_ok_weaker}
use Rattle.zic_failures.proofs.place.push_label.Goals as goal

pub returns : goal.returns
returns c =
    on_ok_weaker c.push_bytes-3.result
    (λ stays shown. stays (c.in_ok-push_bytes-2.ensures (c.in_ok-push_bytes.ensures shown))) c.push_bytes-3.ensures
