use Rattle.std.proofs.lemmas.Result.{on_ok_weaker}
use Rattle.zic_failures.proofs.nearest.push_nearest.Goals as goal

pub returns : goal.returns
returns c =
    on_ok_weaker c.push_line_end-3.result
    (λ stays shown. stays (c.in_ok-push_bytes-3.ensures (c.in_ok-push_bytes-2.ensures (c.in_ok-push_line_end-2.ensures (c.in_ok-push_bytes.ensures
    (c.in_ok-push_line_end.ensures shown)))))) c.push_line_end-3.ensures
