use Rattle.std.proofs.Common.{◌≡◌, ◌+◌, ℤ, List, length, Some, refl, subst, to_z-of_z}
use Rattle.std.proofs.lemmas.Option.{slice_get_read}
use Rattle.std.specs.Prelude.{slice_get}
use Rattle.zic_zones.specs.Places.{IsPlaceOf}
use Rattle.zic_zones.proofs.Readying.{if_some_then, near_found}
use Rattle.zic_zones.specs.declared.ready.ReadyZone.{ReadyZone}
use Rattle.zic_zones.proofs.ready.Ready.state_near_by_table.Goals as goal

pub returns : goal.returns
returns c = λ files are.
    let ready = c.args.self.now in
    let zone = c.in_ok-zone.zone.now in
    let place = c.in_ok-place.place in
    let start = c.in_ok-start.start in
    let slot = c.in_ok-slot.slot in
    let zones = c.deref.result.now in
    let found = c.in_ok-zone.ensures.lookup in
    let zone_at = subst (λ (l : List ReadyZone). slice_get l c.args.file ≡ Some zone) c.deref.ensures.value (slice_get_read zones (length zones) c.args.file zone refl found.3.0 found.1) in
    let lies = subst (λ (t : ℤ). IsPlaceOf t place) (to_z-of_z c.ranges.local) c.in_ok-place.ensures in
    let slot_at : slice_get ready.tables (start + place.slot) ≡ Some slot = c.in_ok-slot.ensures in
    if_some_then c.number_near.result c.number_near.ensures
    (λ n near. near_found files ready are c.args.file zone zone_at c.args.local place start slot n lies c.in_ok-start.was slot_at near)
