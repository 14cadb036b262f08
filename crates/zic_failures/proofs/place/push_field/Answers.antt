use Rattle.std.proofs.lemmas.Result.{on_ok_weaker}
use Rattle.zic_failures.proofs.place.push_field.Goals as goal

pub returns : goal.returns
returns c =
    on_ok_weaker c.push_line_end-2.result
    (λ stays shown. stays (c.in_ok-push_label.ensures (c.in_ok-push_number.ensures shown))) c.push_line_end-2.ensures
