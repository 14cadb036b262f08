use Rattle.std.proofs.Common.{◌∙◌, [], ◌∷◌, List, subst, sym}
use Rattle.zic_local.specs.declared.local_index.LocalIndex.{LocalIndex}
use Rattle.zic_zones.proofs.Keeping.{keeps_more}
use Rattle.zic_zones.proofs.Readying.{index_pushed, near_known}
use Rattle.zic_zones.specs.code.Numbered.{Keeps}
use Rattle.zic_zones.proofs.ready.Ready.index_of.Goals as goal

pub for_zone-requires : goal.for_zone-requires
for_zone-requires c = near_known c.zone.result.now c.zone.ensures.known

pub returns-clause-indexes : goal.returns-clause-indexes
returns-clause-indexes c =
    let old = c.args.self.now.indexes.items in
    subst (λ (l : List LocalIndex). Keeps old l) (sym c.in_ok-push.ensures.items) (keeps_more old (c.in-Some-2.index ∷ []))

pub returns-clause-index : goal.returns-clause-index
returns-clause-index c =
    let indexes = c.args.self.now.indexes in
    index_pushed c.args.files.now c.args.file c.zone.result.now indexes.items c.push.new.self.items c.in-Some-2.index c.len-number.result
    c.in_ok-push.ensures.items (c.len-number.ensures ∙ indexes.ok.0) (rw c.in-Some-2.is at c.in_ok-index.ensures) c.zone.ensures.zone
