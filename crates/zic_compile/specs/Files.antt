-- The files of a source: zic(8), FILES. Own choice: they stand in the order of the texts and their
-- lines, and the first zone in that order that has a fault decides.
use Rattle.std.specs.Prelude.{◌≡◌, ◌<◌, ℕ, List, length, Some, ◌⊎◌, All, AllPairs, Contains, IsSomeAnd, slice_get}
use Rattle.std.specs.List.{AllZip}
use Rattle.zic_base.specs.Place.{IsBefore}
use Rattle.zic_base.specs.declared.fault.Fault.{Fault}
use Rattle.zic_base.specs.declared.fault.Place.{Place}
use Rattle.zic_lines.specs.declared.link.Link.{Link}
use Rattle.zic_source.specs.Links.{EndsAt}
use Rattle.zic_source.specs.Source.{SourceLines, zone_at}
use Rattle.zic_states.specs.Zone.{Zone}
use Rattle.zic_rules.specs.Timeline.{zone_of}
use Rattle.zic_files.specs.File.{FileImage, File}
use Rattle.zic_compile.specs.Image.{IsImageOf, ReadsAs, IsFaultOfZone, ImageNeedsMemory}

-- a zone's image, which, read by RFC 9636, gives at every instant what the zone's lines define
pub record IsReadImage (zone : Zone) (of_zone : FileImage) : Type 0 where
  pub image : IsImageOf zone of_zone
  pub reads : ReadsAs zone of_zone

-- the images of all zones, in the order of the texts and their lines
pub record AreImagesOf (source : SourceLines) (images : List FileImage) : Type 0 where
  pub count : length images ≡ length source.zones
  pub each : (n : ℕ) (image : FileImage) → slice_get images n ≡ Some image
      → IsReadImage (zone_of source n) image

-- The Zone line at this place has this file: the zone's name, and its image.
pub record IsFileOfZone (source : SourceLines) (images : List FileImage) (place : Place)
    (file : File) : Type 0 where
  pub number : ℕ
  pub is_zone : IsSomeAnd (zone_at source number) (λ zone. (zone.first.place ≡ place)
      × (file.name ≡ zone.name))
  pub image : slice_get images number ≡ Some file.image

-- The Link line at this place has this file: the link's name, and the image of the zone at the end
-- of its chain.
pub record IsFileOfLink (source : SourceLines) (images : List FileImage) (place : Place)
    (file : File) : Type 0 where
  pub link : Link
  pub is_link : Contains source.links link
  pub at_place : link.place ≡ place
  pub named : file.name ≡ link.name
  pub number : ℕ
  pub ends : EndsAt source link number
  pub image : slice_get images number ≡ Some file.image

-- the file of the Zone or Link line at this place, where these are the images of all zones
abbrev pub IsFileAt : SourceLines → List FileImage → Place → File → Type 0
IsFileAt source images place file =
    IsFileOfZone source images place file ⊎ IsFileOfLink source images place file

-- one file for each Zone and each Link line, in the order of the texts and their lines; a link's
-- has the image of its zone's
pub record AreFilesOf (source : SourceLines) (files : List File) : Type 0 where
  pub images : List FileImage
  pub of_zones : AreImagesOf source images
  pub places : List Place
  pub rising : AllPairs IsBefore places
  pub each : AllZip (IsFileAt source images) places files
  pub zones : All (λ zone. Contains places zone.first.place) source.zones
  pub links : All (λ link. Contains places link.place) source.links

-- each zone before the one of this number has an image
abbrev pub HaveImagesBefore : SourceLines → ℕ → Type 0
HaveImagesBefore source n =
    (m : ℕ) → m < n → (image : FileImage) × IsImageOf (zone_of source m) image

-- the fault of the first zone in the order of texts and lines that has one
pub record IsFaultOfFiles (source : SourceLines) (fault : Fault) : Type 0 where
  pub number : ℕ
  pub is_zone : number < length source.zones
  pub fault_of_zone : IsFaultOfZone (zone_of source number) fault
  pub before : HaveImagesBefore source number

-- where memory may run out: at a zone whose image may need it, before which each zone has an image
pub record CompileNeedsMemory (source : SourceLines) : Type 0 where
  pub number : ℕ
  pub is_zone : number < length source.zones
  pub wants : ImageNeedsMemory (zone_of source number)
  pub before : HaveImagesBefore source number
