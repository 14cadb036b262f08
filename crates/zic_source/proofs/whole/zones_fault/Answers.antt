use Rattle.std.proofs.Common.{◌≡◌, ◌<◌, ◌∙◌, List, length, get_or, ap, refl, subst, arith}
use Rattle.std.proofs.lemmas.List.{take_all}
use Rattle.std.proofs.lemmas.Option.{slice_get_read}
use Rattle.zic_source.specs.Source.{ZoneLines}
use Rattle.zic_source.specs.code.Faults.{ZoneIsRight, ZoneHas, IsFirstOf}
use Rattle.zic_source.proofs.faults.Earlier.{first_of_more}
use Rattle.zic_source.proofs.faults.Found.{zone_excludes}
use Rattle.zic_source.proofs.whole.zones_fault.Goals as goal

pub loop-zone-preserved : goal.loop-zone-preserved
loop-zone-preserved c =
    let rules = c.args.lines.now.rules.items in
    let zones = c.args.lines.now.zones.items in
    let is : c.zone-item.result ≡ get_or zones c.loop-zone.zone-index c.zone-item.result = c.zone-item.is ∙ ap (λ (zs : List ZoneLines). get_or zs c.loop-zone.zone-index c.zone-item.result) c.deref-zone-items.ensures.value in
    let within : c.loop-zone.zone-index < length zones = omega (arith, c.loop-zone-test.true, ap length c.deref-zone-items.ensures.value) in
    first_of_more (ZoneIsRight rules) (ZoneHas rules) (zone_excludes rules) zones c.loop-zone.zone-index c.zone-item.result
    c.loop-zone.first c.zone_fault.result c.earlier-first.result (slice_get_read zones _ c.loop-zone.zone-index c.zone-item.result refl within is) c.loop-zone.invariant (c.zone_fault.ensures rules c.requires) c.earlier-first.ensures

pub returns : goal.returns
returns c = subst (λ (zones : List ZoneLines). IsFirstOf (ZoneIsRight c.args.lines.now.rules.items) (ZoneHas c.args.lines.now.rules.items) zones c.loop-zone.first)
    (take_all c.loop-zone.zone-index c.args.lines.now.zones.items (omega (arith, c.loop-zone-test.false, ap length c.deref-zone-items.ensures.value)))
    c.loop-zone.invariant
