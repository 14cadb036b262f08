use Rattle.std.proofs.Common.{string_bytes, arith}
use Rattle.std.proofs.lemmas.Grind.{common_steps}
use Rattle.std.proofs.lemmas.Result.{IfOk-weaker}
use Rattle.zic_failures.proofs.place.line_place.Goals as goal

pub returns : goal.returns
returns c =
    IfOk-weaker c.format.result _ _
    (λ place is. (string_bytes c.in_ok-rest.rest, c.in_ok-rest.ensures, grind (arith, common_steps, is))) c.format.ensures.ok
