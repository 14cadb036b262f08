use Rattle.std.proofs.Common.{◌≡◌, sym, ap, subst, ◌∙◌}
use Rattle.std.proofs.lemmas.Option.{IfSome_then}
use Rattle.std.specs.Prelude.{slice_get}
use Rattle.zic_base.proofs.Elements.{all_got, got}
use Rattle.zic_files.specs.File.{FileImage, File}
use Rattle.zic_tzif.specs.Reading.{IsFile}
use Rattle.zic_files.specs.Sound.{IsAlwaysKnown, IsSoundFile}
use Rattle.zic_base.proofs.Options.{if_at}
use Rattle.zic_files.proofs.files.Files.zone.Goals as goal

pub returns-clause-read : goal.returns-clause-read
returns-clause-read c =
    IfSome_then (slice_get c.args.self.now c.args.i) c.image.ensures
    (λ file is. subst (λ (image : FileImage). IsFile image.octets image.content) is c.zone.ensures.read)

pub returns-clause-known : goal.returns-clause-known
returns-clause-known c =
    let (file, at) = got c.args.self.now c.args.i c.requires in
    let sound = all_got IsSoundFile c.args.self.now c.args.i file c.len.ensures.sound.each at in
    let image = if_at (slice_get c.args.self.now c.args.i) (λ (f : File). c.image.result.now ≡ f.image) file c.image.ensures at in
    let same = c.zone.ensures.zone ∙ ap (λ (i : FileImage). i.content) image in
    subst IsAlwaysKnown (sym same) sound.known

pub returns-clause-zone : goal.returns-clause-zone
returns-clause-zone c =
    IfSome_then (slice_get c.args.self.now c.args.i) c.image.ensures (λ file is. c.zone.ensures.zone ∙ ap (λ (i : FileImage). i.content) is)
