use Rattle.std.proofs.Common.{List, ℕ, map, string_bytes, subst, take}
use Rattle.zic_compare.specs.Reading.{IsReadAt}
use Rattle.zic_compare.proofs.ReadingLemmas.{read_more, text_more}
use Rattle.zic_compare.proofs.sides.read_tree.Goals as goal

pub loop-i-preserved : goal.loop-i-preserved
loop-i-preserved g c =
    let old = g.Z.ZoneTree.replied c.args.tree.now in
    let mid = g.Z.ZoneTree.replied c.loop-i.tree in
    let new = g.Z.ZoneTree.replied c.learn.new.tree in
    let was = c.loop-i.invariant in
    let names = map string_bytes (take c.loop-i.i c.args.names.now) in
    let more = read_more names c.as_bytes.result.now old mid new c.loop-i.files c.learn.new.self was (c.in_ok-learn.ensures.ok was.replies was.from) in
    let is = text_more string_bytes c.args.names.now c.loop-i.i c.index-names-i.result c.as_bytes.result.now c.loop-i-test.true c.index-names-i.is c.as_bytes.ensures.value in
    subst (λ (ns : List (List ℕ)). IsReadAt ns old new c.learn.new.self) is more
