use Rattle.std.proofs.Common.{◌≡◌, ◌∙◌, List, Some, ap, sym, subst}
use Rattle.std.specs.Prelude.{slice_get}
use Rattle.std.proofs.lemmas.Option.{slice_get-get_or}
use Rattle.std.proofs.lemmas.Slice.Eq.{bytes_eq-Decides}
use Rattle.zic_files.specs.File.{FileImage}
use Rattle.zic_files.proofs.SameBytes.{same_image}
use Rattle.zic_files.proofs.images.Images.same_at.Goals as goal

pub returns-then-eq : goal.returns-then-eq
returns-then-eq c =
    let number = c.in_ok-number.field-0.now in
    let held = c.in_ok-held.held.now in
    let image = c.args.image.now in
    let at = c.in_ok-held.ensures.lookup in
    let found : slice_get c.self.inside.list.items number ≡ Some held =
    ap (λ (l : List FileImage). slice_get l number) (sym c.deref-2.ensures.value) ∙ slice_get-get_or c.deref-2.result.now number held at.3.0 ∙ ap (λ (i : FileImage). Some i) (sym at.1)
    in
    let bytes = (bytes_eq-Decides c.octets.result.now c.octets-2.result.now).0 (sym c.eq.ensures ∙ c.if-eq.true) in
    let same = same_image c.files_say_one.ensures held image (sym c.octets.ensures ∙ bytes ∙ c.octets-2.ensures) c.zone.ensures.read c.zone-then-eq.ensures.read in
    subst (λ (l : List FileImage). slice_get l number ≡ Some image) c.self.view_is (found ∙ ap (λ (i : FileImage). Some i) same)
