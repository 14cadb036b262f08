use Rattle.std.proofs.Common.{◌≡◌, subst, sym}
use Rattle.std.specs.Prelude.{IfSome}
use Rattle.zic_source.specs.Source.{zone_at}
use Rattle.zic_bulk.proofs.LinkLemmas.{zone_is_found}
use Rattle.zic_bulk.proofs.build_linked_command.zone_file.Goals as goal

pub unreachable-requires : goal.unreachable-requires
unreachable-requires c =
    let source = c.args.source.now in
    let named = subst (λ name. IfSome (zone_at source c.args.zone) (λ zone. name ≡ zone.name)) (sym c.octets.ensures.octets) c.zone_name.ensures in
    zone_is_found source c.zones.ensures.sound c.args.files.now c.requires.files c.args.zone c.octets.result.now c.requires.zone named c.in-None.ensures.missing
