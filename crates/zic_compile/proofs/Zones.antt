-- The images of the zones of a range, and what follows where the next has none.
use Rattle.std.proofs.Common.{◌≡◌, ◌<◌, ◌+◌, ◌-◌, ℕ, List, [], ◌∷◌, ◌++◌, length, Option, Some, None, inl, inr, zero, suc, subst, ◌⊎◌, arith, get_or}
use Rattle.std.specs.Prelude.{IfSome, IfNone, slice_get}
use Rattle.std.proofs.lemmas.List.{length-append}
use Rattle.std.proofs.lemmas.Option.{same_Some, slice_get_cases, slice_get-get_or}
use Rattle.zic_base.specs.Fault.{fault_of}
use Rattle.zic_base.specs.declared.fault.Kind.TheVariants as kind
use Rattle.zic_base.specs.declared.fault.Stop.{Stop}
use Rattle.zic_base.specs.declared.fault.Stop.TheVariants as stop
use Rattle.zic_source.specs.Source.{SourceLines}
use Rattle.zic_rules.specs.Timeline.{zone_of}
use Rattle.zic_files.specs.File.{FileImage, no_image}
use Rattle.zic_compile.specs.Image.{IsImageOf, IsFaultOfZone, ImageNeedsMemory}
use Rattle.zic_compile.specs.Files.{IsReadImage, AreImagesOf, CompileNeedsMemory}
use Rattle.zic_compile.specs.code.Zones.{AreImagesWithin, HaveImagesWithin, IsFaultWithin, NeedsMemoryWithin}

-- a member of two lists, one after the other, is one of the first or one of the second
either : {X : Type 0} (xs ys : List X) (k : ℕ) (x : X) → slice_get (xs ++ ys) k ≡ Some x
    → (slice_get xs k ≡ Some x) ⊎ ((j : ℕ) × (k ≡ length xs + j) × (slice_get ys j ≡ Some x))
either [] ys k x e = inr (k, omega arith, e)
either (z ∷ xs) ys zero x e = inl e
either (z ∷ xs) ys (suc k) x e =
    elim (either xs ys k x e) [
      | inl of_first ↦ inl of_first
      | inr of_second ↦ inr (of_second.0, omega (arith, of_second.1), of_second.2)
    ]

-- no zone's image
pub none_within : (source : SourceLines) (first : ℕ) → AreImagesWithin source first first []
none_within source first = record { count = omega arith; each = λ k image e. absurd cc }

-- the images of a range, and those of the next
pub both_within : (source : SourceLines) (first mid end : ℕ) (xs ys : List FileImage) → AreImagesWithin source first mid xs → AreImagesWithin source mid end ys
    → AreImagesWithin source first end (xs ++ ys)
both_within source first mid end xs ys before after = record {
  count = omega (arith, length-append xs ys, before.count, after.count);
  each = λ k image e. elim (either xs ys k image e) [
    | inl of_first ↦ before.each k image of_first
    | inr of_second ↦
        let at : mid + of_second.0 ≡ first + k = omega (arith, of_second.1, before.count) in
        subst (λ (n : ℕ). IsReadImage (zone_of source n) image) at (after.each of_second.0 image of_second.2)
  ];
}

only : (source : SourceLines) (number : ℕ) (last : FileImage) → IsReadImage (zone_of source number) last → (k : ℕ) (image : FileImage) → slice_get (last ∷ []) k ≡ Some image → IsReadImage (zone_of source (number + k)) image
only source number last is zero image e =
    let at : number ≡ number + 0 = omega arith in
    subst (λ (n : ℕ). IsReadImage (zone_of source n) image) at (subst (λ (i : FileImage). IsReadImage (zone_of source number) i) (same_Some last image e) is)
only source number last is (suc k) image e = absurd cc

-- one image more
pub one_more : (source : SourceLines) (first end : ℕ) (images : List FileImage) (last : FileImage) → AreImagesWithin source first end images → IsReadImage (zone_of source end) last
    → AreImagesWithin source first (end + 1) (images ++ last ∷ [])
one_more source first end images last are is =
    both_within source first end (end + 1) images (last ∷ []) are (record { count = omega arith; each = only source end last is })

-- each zone of the range has an image
pub have_within : (source : SourceLines) (first end : ℕ) (images : List FileImage) → AreImagesWithin source first end images → HaveImagesWithin source first end
have_within source first end images are m from below =
    let at : first + (m - first) ≡ m = omega (arith, from) in
    elim (slice_get_cases images (m - first)).1 [
      | inl some ↦ subst (λ (n : ℕ). (image : FileImage) × IsImageOf (zone_of source n) image) at (some.0, (are.each (m - first) some.0 some.2).image)
      | inr past ↦ absurd (omega (arith, are.count, from, below))
    ]

-- the first zone of the range that has a fault
pub fault_within : (source : SourceLines) (first number end : ℕ) (images : List FileImage) (e : Stop) → AreImagesWithin source first number images → number < end
    → IfSome (fault_of e) (IsFaultOfZone (zone_of source number)) → IfSome (fault_of e) (IsFaultWithin source first end)
fault_within source first number end images stop.Memory are below h = tt
fault_within source first number end images (stop.Fault fault) are below h =
    record { number = number; from = omega (arith, are.count); below = below; fault_of_zone = h; before = have_within source first number images are }

-- or that wants memory
pub wants_within : (source : SourceLines) (first number end : ℕ) (images : List FileImage) → AreImagesWithin source first number images → number < end
    → ImageNeedsMemory (zone_of source number) → NeedsMemoryWithin source first end
wants_within source first number end images are below wants =
    record { number = number; from = omega (arith, are.count); below = below; wants = wants; before = have_within source first number images are }

pub if_none_weaker : {F : Type 0} (o : Option F) (P Q : Type 0) → (P → Q) → IfNone o P → IfNone o Q
if_none_weaker None P Q f p = f p
if_none_weaker (Some x) P Q f p = tt

-- the image of a zone that has one may want memory
pub wanted : (source : SourceLines) (n : ℕ) (image : FileImage) → IsReadImage (zone_of source n) image → ImageNeedsMemory (zone_of source n)
wanted source n image is = record { in_range = is.image.sound kind.OffsetRange; fixed = λ _. (is.image.sound, (is.image.footer, is.image.is_made)) }

-- the images of the whole range are those of all zones
pub all_images : (source : SourceLines) (end : ℕ) (images : List FileImage) → end ≡ length source.zones → AreImagesWithin source 0 end images → AreImagesOf source images
all_images source end images is_end are = record {
  count = omega (arith, is_end, are.count);
  each = λ n image e. (let at : 0 + n ≡ n = omega arith in subst (λ (k : ℕ). IsReadImage (zone_of source k) image) at (are.each n image e));
}

-- Where some zone is there and each has an image, memory may be wanting at the first.
pub memory_after : (source : SourceLines) (images : List FileImage) → AreImagesOf source images → 0 < length source.zones → CompileNeedsMemory source
memory_after source images are lt =
    let image = are.each 0 (get_or images 0 no_image) (slice_get-get_or images 0 no_image (omega (arith, are.count, lt))) in
    record { number = 0; is_zone = lt; wants = wanted source 0 (get_or images 0 no_image) image; before = λ m below. absurd (omega (arith, below)) }
