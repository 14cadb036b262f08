use Rattle.std.proofs.lemmas.Result.{on_ok_weaker}
use Rattle.zic_failures.proofs.place.push_line_part.Goals as goal

pub returns : goal.returns
returns c =
    on_ok_weaker c.push_shown.result (λ stays shown. stays (c.in_ok-push_field.ensures (c.in_ok-push_count.ensures shown))) c.push_shown.ensures
