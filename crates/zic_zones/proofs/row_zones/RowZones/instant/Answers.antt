use Rattle.std.proofs.Common.{◌≡◌, List, subst, sym, to_z-of_z}
use Rattle.std.specs.Prelude.{IfSome, slice_get}
use Rattle.zic_base.proofs.Elements.{all_got, got}
use Rattle.zic_base.proofs.Options.{if_at}
use Rattle.zic_files.specs.File.{File}
use Rattle.zic_files.specs.Sound.{IsSoundFile}
use Rattle.zic_local.specs.Index.{IsIndexOf}
use Rattle.zic_tzif.specs.Content.{Content}
use Rattle.zic_zones.specs.code.Ready.{AreReady}
use Rattle.zic_zones.specs.Resolved.{resolved}
use Rattle.zic_zones.proofs.row_zones.RowZones.instant.Goals as goal

pub instant_by-requires-clause-offsets : goal.instant_by-requires-clause-offsets
instant_by-requires-clause-offsets c =
    let files = c.args.self.now in
    let (file, at) = got files c.args.file c.requires.within in
    let zone = subst (λ (l : List File). IfSome (slice_get l c.args.file) (λ f. c.zone.result.now ≡ f.image.content)) c.self.view_is c.zone.ensures.zone in
    let same = if_at (slice_get files c.args.file) (λ (f : File). c.zone.result.now ≡ f.image.content) file zone at in
    let read = (all_got IsSoundFile files c.args.file file c.are_sound.ensures.each at).read in
    rw same (c.instants_are_near.ensures.offsets file.image.octets file.image.content read)

pub instant_by-requires-clause-index : goal.instant_by-requires-clause-index
instant_by-requires-clause-index c =
    let files = c.args.self.now in
    let (file, at) = got files c.args.file c.requires.within in
    let zone = subst (λ (l : List File). IfSome (slice_get l c.args.file) (λ f. c.zone.result.now ≡ f.image.content)) c.self.view_is c.zone.ensures.zone in
    let same = if_at (slice_get files c.args.file) (λ (f : File). c.zone.result.now ≡ f.image.content) file zone at in
    let ready = subst (λ (l : List File). AreReady l c.self.inside.ready.now) c.self.view_is c.self.invariant in
    let index = c.local_index-index.result in
    let of = if_at (slice_get files c.args.file) (λ (f : File). IfSome index (λ i. IsIndexOf f.image.content i.now)) file (c.local_index-index.ensures files ready) at in
    subst (λ (content : Content). IfSome index (λ i. IsIndexOf content i.now)) (sym same) of

pub returns : goal.returns
returns c =
    let files = c.args.self.now in
    let (file, at) = got files c.args.file c.requires.within in
    let zone = subst (λ (l : List File). IfSome (slice_get l c.args.file) (λ f. c.zone.result.now ≡ f.image.content)) c.self.view_is c.zone.ensures.zone in
    let same = if_at (slice_get files c.args.file) (λ (f : File). c.zone.result.now ≡ f.image.content) file zone at in
    let read = (all_got IsSoundFile files c.args.file file c.are_sound.ensures.each at).read in
    let meant = resolved file.image.octets c.args.local c.args.disambiguation in
    rw at (c.choices_mean_one.ensures file.image.content c.args.local c.args.disambiguation c.instant_by.result meant
    (rw (to_z-of_z c.ranges.local, same) at c.instant_by.ensures) (c.local_times_resolve.ensures file.image.octets file.image.content read c.args.local c.args.disambiguation))
