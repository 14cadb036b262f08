use Rattle.std.proofs.Common.{◌∙◌}
use Rattle.std.proofs.lemmas.Option.{slice_get_read}
use Rattle.zic_zones.proofs.Readying.{index_shared}
use Rattle.zic_zones.proofs.ready.Ready.shared_index.Goals as goal

pub returns-then-share_image : goal.returns-then-share_image
returns-then-share_image c =
    let ready = c.args.self.now in
    let zones = ready.zones.items in
    let zone = c.index.result.now in
    let other = c.loop-other.other in
    let long = c.len-other-end.ensures ∙ ready.zones.ok.0 in
    let zone_at = slice_get_read zones c.len-other-end.result other zone long c.loop-other-test.true c.index.ensures in
    index_shared c.args.files.now ready c.requires.ready other zone zone_at c.in-Some.number c.in-Some.is c.args.file (c.share_image.ensures c.if-share_image.true)
