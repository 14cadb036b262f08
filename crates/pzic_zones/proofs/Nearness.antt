-- The zone of a file is near UT.
use Rattle.std.proofs.Common.{◌≡◌, ℕ, ◌<◌, List, length, slice_get, IfSome, sym, subst}
use Rattle.zic_base.proofs.Elements.{got}
use Rattle.zic_files.specs.File.{File}
use Rattle.zic_local.specs.LocalTime.{HaveOffsets}
use Rattle.zic_tzif.specs.Content.{Content}
use Rattle.zic_tzif.specs.Reading.{IsFile}
use Rattle.pzic_zones.specs.code.Near.{IsNear}

pub near-of-file : (files : List File) (i : ℕ) (content : Content) → i < length files → ((octets : List ℕ) (other : Content) → IsFile octets other → HaveOffsets other)
    → IfSome (slice_get files i) (λ file. content ≡ file.image.content) → IfSome (slice_get files i) (λ file. IsFile file.image.octets file.image.content) → IsNear content
near-of-file files i content inside law same read =
    let (file, at) = got files i inside in
    let is_same : content ≡ file.image.content = subst (λ o. IfSome o (λ (f : File). content ≡ f.image.content)) at same in
    let is_read : IsFile file.image.octets file.image.content = subst (λ o. IfSome o (λ (f : File). IsFile f.image.octets f.image.content)) at read in
    record { offsets = subst HaveOffsets (sym is_same) (law file.image.octets file.image.content is_read) }
