use Rattle.std.proofs.Common.{◌≡◌, List, length, Some, refl, subst}
use Rattle.std.proofs.lemmas.Option.{slice_get_read}
use Rattle.std.specs.Prelude.{slice_get}
use Rattle.zic_zones.proofs.Readying.{index_found}
use Rattle.zic_zones.specs.declared.ready.ReadyZone.{ReadyZone}
use Rattle.zic_zones.proofs.ready.Ready.local_index.Goals as goal

pub returns : goal.returns
returns c = λ files are.
    let ready = c.args.self.now in
    let zone = c.in_ok-zone.zone.now in
    let zones = c.deref.result.now in
    let found = c.in_ok-zone.ensures.lookup in
    let zone_at = subst (λ (l : List ReadyZone). slice_get l c.args.file ≡ Some zone) c.deref.ensures.value (slice_get_read zones (length zones) c.args.file zone refl found.3.0 found.1) in
    let number = c.in_ok-number.number in
    let has : zone.index ≡ Some number = c.in_ok-number.was in
    index_found files ready are c.args.file zone zone_at number has c.get-2.result (λ index. index.now)
    (rw c.deref-2.ensures.value at c.get-2.ensures.lookup.0) (rw c.deref-2.ensures.value at c.get-2.ensures.lookup.1)
