use Rattle.std.proofs.lemmas.Result.{on_ok_weaker}
use Rattle.zic_failures.proofs.related.push_abbreviation.Goals as goal

pub returns : goal.returns
returns c =
    on_ok_weaker c.push_line_end.result
    (λ stays shown. stays (c.in_ok-push_bytes-3.ensures (c.in_ok-push_bytes-2.ensures (c.in_ok-push_bytes.ensures shown))))
    c.push_line_end.ensures
