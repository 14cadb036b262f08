-- The files of entries, by the images of all zones.
use Rattle.std.proofs.Common.{◌≡◌, ◌<◌, ℕ, List, [], ◌∷◌, length, All, Some, inl, inr, arith, get_or}
use Rattle.std.specs.Prelude.{Result, Ok, Err, IfErr, map, slice_get}
use Rattle.std.specs.List.{AllZip}
use Rattle.std.proofs.lemmas.Option.{slice_get_within, slice_get-get_or}
use Rattle.std.proofs.lemmas.List.Elements.{All-nil, All-cons}
use Rattle.zic_base.specs.declared.fault.Place.{Place}
use Rattle.zic_source.specs.Links.{LeadsTo}
use Rattle.zic_source.specs.Source.{SourceLines, zone_at}
use Rattle.zic_files.specs.File.{FileImage, file_of, no_image}
use Rattle.zic_compile.specs.Files.{AreFilesOf, AreImagesOf, IsFileAt}
use Rattle.zic_files.specs.declared.names.Entry.{Entry}
use Rattle.zic_compile.specs.code.Entries.{AreEntriesOf, IsEntryAt}
use Rattle.zic_base.proofs.Options.{some_of}

-- the image of a zone
image_at : (source : SourceLines) (images : List FileImage) (n : ℕ) → AreImagesOf source images → n < length source.zones → slice_get images n ≡ Some (get_or images n no_image)
image_at source images n are lt = slice_get-get_or images n no_image (omega (arith, are.count, lt))

-- an entry has a zone
has_zone : (source : SourceLines) (place : Place) (entry : Entry) → IsEntryAt source place entry → entry.zone < length source.zones
has_zone source place entry (inl of_zone) =
    let z = some_of (zone_at source entry.zone) (λ lines. (lines.first.place ≡ place) × (entry.name ≡ lines.name)) of_zone in
    slice_get_within source.zones entry.zone z.0 z.1
has_zone source place entry (inr of_link) =
    let z = some_of (zone_at source entry.zone) (λ lines. LeadsTo source of_link.link.target lines.name) of_link.ends in
    slice_get_within source.zones entry.zone z.0 z.1

pub have_images : (source : SourceLines) (images : List FileImage) (places : List Place) (entries : List Entry) → AreImagesOf source images → AllZip (IsEntryAt source) places entries → All (λ entry. entry.zone < length images) entries
have_images source images [] [] are each = All-nil (λ entry. entry.zone < length images)
have_images source images [] (e ∷ entries) are each = absurd each
have_images source images (p ∷ places) [] are each = absurd each
have_images source images (p ∷ places) (e ∷ entries) are each =
    All-cons (λ entry. entry.zone < length images) e entries (omega (arith, are.count, has_zone source p e each.0)) (have_images source images places entries are each.1)

-- Where some entry is there, some zone is.
pub some_zone : (source : SourceLines) (entries : List Entry) → AreEntriesOf source entries → 0 < length entries → 0 < length source.zones
some_zone source entries of lt = some_place of.places entries of.each lt where
  some_place : (places : List Place) (entries : List Entry) → AllZip (IsEntryAt source) places entries → 0 < length entries → 0 < length source.zones
  some_place [] [] each lt = absurd (omega (arith, lt))
  some_place [] (e ∷ entries) each lt = absurd each
  some_place (p ∷ places) [] each lt = absurd each
  some_place (p ∷ places) (e ∷ entries) each lt = omega (arith, has_zone source p e each.0)

-- what holds anyway holds on an error
pub on_err : {X E : Type 0} (result : Result X E) (P : Type 0) → P → IfErr result (λ _. P)
on_err (Ok x) P p = tt
on_err (Err e) P p = p

-- the file of an entry
file_at : (source : SourceLines) (images : List FileImage) (place : Place) (entry : Entry) → AreImagesOf source images → IsEntryAt source place entry → IsFileAt source images place (file_of images entry)
file_at source images place entry are (inl of_zone) =
    let image = image_at source images entry.zone are (has_zone source place entry (inl of_zone)) in
    inl (record { number = entry.zone; is_zone = of_zone; image = image })
file_at source images place entry are (inr of_link) =
    let image = image_at source images entry.zone are (has_zone source place entry (inr of_link)) in
    inr (record {
      link = of_link.link;
      is_link = of_link.is_link;
      at_place = of_link.at_place;
      named = of_link.named;
      number = entry.zone;
      ends = of_link.ends;
      image = image;
    })

files_at : (source : SourceLines) (images : List FileImage) (places : List Place) (entries : List Entry) → AreImagesOf source images → AllZip (IsEntryAt source) places entries → AllZip (IsFileAt source images) places (map (file_of images) entries)
files_at source images [] [] are each = tt
files_at source images [] (e ∷ entries) are each = absurd each
files_at source images (p ∷ places) [] are each = absurd each
files_at source images (p ∷ places) (e ∷ entries) are each = (file_at source images p e are each.0, files_at source images places entries are each.1)

-- the files of all entries
pub all_files : (source : SourceLines) (images : List FileImage) (entries : List Entry) → AreImagesOf source images → AreEntriesOf source entries → AreFilesOf source (map (file_of images) entries)
all_files source images entries are of = record {
  images = images;
  of_zones = are;
  places = of.places;
  rising = of.rising;
  each = files_at source images of.places entries are of.each;
  zones = of.zones;
  links = of.links;
}
