-- The zones of a range of numbers, from one on up to another.
use Rattle.std.specs.Prelude.{◌≡◌, ◌+◌, ◌≤◌, ◌<◌, ℕ, List, length, Some, slice_get}
use Rattle.zic_base.specs.declared.fault.Fault.{Fault}
use Rattle.zic_source.specs.Source.{SourceLines}
use Rattle.zic_rules.specs.Timeline.{zone_of}
use Rattle.zic_files.specs.File.{FileImage}
use Rattle.zic_compile.specs.Image.{IsImageOf, IsFaultOfZone, ImageNeedsMemory}
use Rattle.zic_compile.specs.Files.{IsReadImage}

-- their images, in order
pub record AreImagesWithin (source : SourceLines) (first end : ℕ)
    (images : List FileImage) : Type 0 where
  pub count : first + length images ≡ end
  pub each : (k : ℕ) (image : FileImage) → slice_get images k ≡ Some image
      → IsReadImage (zone_of source (first + k)) image

-- Each has an image.
abbrev pub HaveImagesWithin : SourceLines → ℕ → ℕ → Type 0
HaveImagesWithin source first end =
    (m : ℕ) → first ≤ m → m < end → (image : FileImage) × IsImageOf (zone_of source m) image

-- the fault of the first of them that has one
pub record IsFaultWithin (source : SourceLines) (first end : ℕ) (fault : Fault) : Type 0 where
  pub number : ℕ
  pub from : first ≤ number
  pub below : number < end
  pub fault_of_zone : IsFaultOfZone (zone_of source number) fault
  pub before : HaveImagesWithin source first number

-- where memory may run out: at one of them whose image may need it, before which each has an image
pub record NeedsMemoryWithin (source : SourceLines) (first end : ℕ) : Type 0 where
  pub number : ℕ
  pub from : first ≤ number
  pub below : number < end
  pub wants : ImageNeedsMemory (zone_of source number)
  pub before : HaveImagesWithin source first number
