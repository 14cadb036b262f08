use Rattle.std.proofs.Common.{List, ℕ, map, string_bytes, subst, take}
use Rattle.zic_compare.specs.Verifying.{AreExtras}
use Rattle.zic_compare.proofs.ReadingLemmas.{extras_more, text_more}
use Rattle.zic_compare.proofs.verifying.extra.Goals as goal

pub loop-i-preserved : goal.loop-i-preserved
loop-i-preserved c =
    let names = map string_bytes (take c.loop-i.i c.args.names.now) in
    let next = c.push_extra.new.lines.items in
    let more = extras_more c.args.files.now names c.as_bytes.result.now c.loop-i.lines.items next c.loop-i.invariant c.in_ok-push_extra.ensures in
    let is = text_more string_bytes c.args.names.now c.loop-i.i c.index-names-i.result c.as_bytes.result.now c.loop-i-test.true c.index-names-i.is c.as_bytes.ensures.value in
    subst (λ (ns : List (List ℕ)). AreExtras c.args.files.now ns next) is more
