use Rattle.std.proofs.lemmas.Result.{on_ok_weaker}
use Rattle.zic_explain.proofs.shown.push_underline.Goals as goal

pub returns : goal.returns
returns c =
    on_ok_weaker c.push_repeated-2.result (λ stays shown. stays (c.loop-byte.invariant shown)) c.push_repeated-2.ensures
