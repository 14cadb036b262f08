use Rattle.std.proofs.Common.{◌≡◌, ℕ, List, length, Some, refl, subst}
use Rattle.std.proofs.lemmas.Option.{slice_get_read}
use Rattle.std.specs.Prelude.{slice_get}
use Rattle.zic_zones.proofs.Readying.{state_found}
use Rattle.zic_zones.specs.declared.ready.ReadyZone.{ReadyZone}
use Rattle.zic_zones.proofs.ready.Ready.state_in.Goals as goal

pub returns : goal.returns
returns c = λ files are.
    let zone = c.in_ok-zone.zone.now in
    let zones = c.deref.result.now in
    let found = c.in_ok-zone.ensures.lookup in
    let zone_at = subst (λ (l : List ReadyZone). slice_get l c.args.file ≡ Some zone) c.deref.ensures.value (slice_get_read zones (length zones) c.args.file zone refl found.3.0 found.1) in
    let numbers = c.deref-2.result.now in
    let named = c.in_ok-text.ensures.lookup in
    let text_at = subst (λ (l : List ℕ). slice_get l c.args.number ≡ Some c.in_ok-text.text.now) c.deref-2.ensures.value (slice_get_read numbers (length numbers) c.args.number c.in_ok-text.text.now refl named.3.0 named.1) in
    state_found files c.args.self.now are c.args.file zone zone_at c.args.number c.in_ok-text.text.now text_at
