use Rattle.std.proofs.Common.{◌≡◌, ◌+◌, ℕ, ℤ, List, length, Some, refl, subst, sym, to_z-of_z}
use Rattle.std.proofs.lemmas.Option.{slice_get_read}
use Rattle.std.specs.Prelude.{slice_get}
use Rattle.zic_zones.specs.Places.{IsPlaceOf}
use Rattle.zic_zones.proofs.Readying.{quick_is}
use Rattle.zic_zones.specs.States.{HasState}
use Rattle.zic_zones.specs.Zones.{AnswersAt}
use Rattle.zic_zones.specs.declared.ready.ReadyZone.{ReadyZone}
use Rattle.zic_zones.proofs.ready.Ready.state_by_table.Goals as goal

pub returns : goal.returns
returns c = λ files are.
    let ready = c.args.self.now in
    let zone = c.in_ok-zone.zone.now in
    let place = c.in_ok-place.place in
    let start = c.in_ok-start.start in
    let slot = c.in_ok-slot.slot in
    let zones = c.deref.result.now in
    let found = c.in_ok-zone.ensures.lookup in
    let zone_at = subst (λ (l : List ReadyZone). slice_get l c.args.file ≡ Some zone) c.deref.ensures.value (slice_get_read zones (length zones) c.args.file zone refl found.3.0 found.1) in
    let lies = subst (λ (t : ℤ). IsPlaceOf t place) (to_z-of_z c.ranges.instant) c.in_ok-place.ensures in
    let slot_at : slice_get ready.tables (start + place.slot) ≡ Some slot = c.in_ok-slot.ensures in
    let states = quick_is files ready are c.args.file zone zone_at c.args.instant place start slot lies c.in_ok-start.was slot_at in
    subst (λ (n : ℕ). HasState ready.texts n (λ s. AnswersAt files c.args.file c.args.instant s)) (sym c.number_at.ensures) states
