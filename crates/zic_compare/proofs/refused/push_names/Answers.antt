use Rattle.std.proofs.Common.{◌≡◌, ◌++◌, List, ℕ, map, string_bytes, subst, take}
use Rattle.zic_compare.specs.Refused.{lines_with}
use Rattle.zic_compare.proofs.ReadingLemmas.{text_more}
use Rattle.zic_compare.proofs.RefusedLemmas.{name_more}
use Rattle.zic_compare.proofs.refused.push_names.Goals as goal

pub loop-i-preserved : goal.loop-i-preserved
loop-i-preserved c =
    let old = c.args.lines.now.items in
    let after = c.args.after.now in
    let next = c.push_name.new.lines.items in
    let names = map string_bytes (take c.loop-i.i c.args.names.now) in
    let more = name_more after names old c.loop-i.lines.items c.as_bytes.result.now next c.loop-i.invariant c.in_ok-push_name.ensures in
    let is = text_more string_bytes c.args.names.now c.loop-i.i c.index-names-i.result c.as_bytes.result.now c.loop-i-test.true c.index-names-i.is c.as_bytes.ensures.value in
    subst (λ (ns : List (List ℕ)). next ≡ old ++ lines_with after ns) is more
