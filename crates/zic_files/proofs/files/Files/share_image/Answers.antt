use Rattle.std.proofs.Common.{◌≡◌, List, length, ap, refl, subst, arith}
use Rattle.std.proofs.lemmas.List.{length-map}
use Rattle.std.proofs.lemmas.Bool.{eqb-true}
use Rattle.std.proofs.lemmas.Option.{slice_get_read}
use Rattle.std.specs.Prelude.{IfSome, slice_get}
use Rattle.zic_files.specs.File.{File, file_of}
use Rattle.zic_files.proofs.Numbers.{shared}
use Rattle.zic_files.proofs.files.Files.share_image.Goals as goal

pub returns : goal.returns
returns c =
    let i = c.self.inside in
    let entries = i.entries.items in
    let long = ap (λ (files : List File). length files) c.self.view_is in
    let count = length-map entries (file_of i.images) in
    let first = c.requires.first in
    let second = c.requires.second in
    let a = c.index.result.now in
    let b = c.index-2.result.now in
    λ same. subst (λ (files : List File). IfSome (slice_get files c.args.i) (λ file. IfSome (slice_get files c.args.j) (λ other. file.image ≡ other.image))) c.self.view_is
    (shared i.images entries c.args.i c.args.j a b
    (slice_get_read entries (length entries) c.args.i a refl (omega (arith, first, long, count)) c.index.ensures)
    (slice_get_read entries (length entries) c.args.j b refl (omega (arith, second, long, count)) c.index-2.ensures)
    (eqb-true a.zone b.zone same))
