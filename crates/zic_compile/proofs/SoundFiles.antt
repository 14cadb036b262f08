-- The files of a sound source are sound.
use Rattle.std.proofs.Common.{◌≡◌, ◌+◌, ◌/◌, ℕ, zero, suc, Bool, true, false, cond, List, [], ◌∷◌, ◌++◌, length, get_or, map, Some, None, inl, inr, refl, sym, ap, subst, ◌∙◌, arith}
use Rattle.std.specs.Prelude.{All, AllPairs, nat_lt, slice_get, unsigned_abs, neg_ℤ}
use Rattle.std.specs.List.{AllZip}
use Rattle.std.proofs.lemmas.List.{length-map}
use Rattle.std.proofs.lemmas.List.Elements.{All-nil, All-cons, All-contains}
use Rattle.std.proofs.lemmas.Option.{same_Some, slice_get-get_or, slice_get_within, get_or_from_slice_get}
use Rattle.zic_base.specs.Place.{IsBefore}
use Rattle.zic_base.specs.declared.fault.Place.{Place}
use Rattle.zic_lines.specs.Name.{is_name}
use Rattle.zic_lines.specs.declared.link.Link.{Link}
use Rattle.zic_source.specs.Sound.{IsSoundSource, IsSoundZone, IsSoundLink, names_of}
use Rattle.zic_source.specs.Source.{SourceLines, ZoneLines, zone_at}
use Rattle.zic_base.proofs.Elements.{all_got, get_contained}
use Rattle.zic_source.proofs.faults.Order.{not_before_itself}
use Rattle.zic_rules.specs.Timeline.{zone_of}
use Rattle.zic_rules.proofs.Limits.{shows_within_limits}
use Rattle.zic_posix.specs.Footer.{TzString}
use Rattle.zic_posix.specs.Printing.{printed, printed_name, printed_offset, printed_rest, printed_seconds, printed_number}
use Rattle.zic_tzif.specs.Content.{Content}
use Rattle.zic_base.proofs.Lists.{get_mapped}
use Rattle.zic_files.specs.File.{FileImage, File}
use Rattle.zic_compile.specs.Files.{IsReadImage, AreImagesOf, IsFileAt}
use Rattle.zic_compile.specs.Laws.{FilesAreSound}
use Rattle.zic_files.specs.Sound.{IsAlwaysKnown, IsSoundFile}
use Rattle.zic_base.proofs.Options.{some_of}
use Rattle.zic_base.proofs.OrderedLists.{at_left, at_right, one_number}
use Rattle.zic_compile.proofs.NamesOf.{zone_name, link_name}

-- ---- a footer has a text

no_front : (xs ys : List ℕ) → xs ++ ys ≡ [] → xs ≡ []
no_front [] ys e = refl
no_front (x ∷ xs) ys e = absurd cc

no_back : (xs ys : List ℕ) → xs ++ ys ≡ [] → ys ≡ []
no_back [] ys e = e
no_back (x ∷ xs) ys e = absurd cc

some_digit : (small middle : Bool) (a b c : ℕ) (bs cs : List ℕ) → cond small (a ∷ []) (cond middle (b ∷ bs) (c ∷ cs)) ≡ [] → ⊥
some_digit true middle a b c bs cs e = cc
some_digit false true a b c bs cs e = cc
some_digit false false a b c bs cs e = cc

number_is_printed : (n : ℕ) → printed_number n ≡ [] → ⊥
number_is_printed n e = some_digit (nat_lt n 10) (nat_lt n 100) _ _ _ _ _ e

string_is_printed : (f : TzString) → printed f ≡ [] → ⊥
string_is_printed f e =
    let offset = no_back (printed_name f.std) (printed_offset f.offset) (no_front (printed_name f.std ++ printed_offset f.offset) (printed_rest f.offset f.dst) e) in
    let seconds = no_back _ (printed_seconds (unsigned_abs (neg_ℤ f.offset))) offset in
    let hours : ℕ = unsigned_abs (neg_ℤ f.offset) / 3600 in
    number_is_printed hours (no_front (printed_number hours) _ seconds)

-- ---- a file

module _ (source : SourceLines) (sound : IsSoundSource source) (n : ℕ) (image : FileImage) (is : IsReadImage (zone_of source n) image) where
  has_text : image.content.text ≡ [] → ⊥
  has_text e = string_is_printed is.image.footer (sym (ap (λ (c : Content). c.text) is.image.is_content.is) ∙ e)

  is_known : IsAlwaysKnown image.content
  is_known t (Some state) gives = shows_within_limits (zone_of source n) sound is.image.sound t state ((is.reads.gives t state).0 gives)
  is_known t None none = absurd (has_text none.no_footer)

module _ (source : SourceLines) (sound : IsSoundSource source) (images : List FileImage) (are : AreImagesOf source images) where
  sound_file : (n : ℕ) (file : File) → is_name file.name ≡ true → slice_get images n ≡ Some file.image → IsSoundFile file
  sound_file n file named at =
      let is = are.each n file.image at in
      record { named = named; read = is.reads.read; footer = has_text source sound n file.image is; known = is_known source sound n file.image is }

  file_is_sound : (place : Place) (file : File) → IsFileAt source images place file → IsSoundFile file
  file_is_sound place file (inl of_zone) =
      let (zone, at, (is_at, named)) = some_of (zone_at source of_zone.number) (λ zone. (zone.first.place ≡ place) × (file.name ≡ zone.name)) of_zone.is_zone in
      let is_zone = all_got (IsSoundZone source.rules) source.zones of_zone.number zone sound.zones at in
      sound_file of_zone.number file (ap is_name named ∙ is_zone.name) of_zone.image
  file_is_sound place file (inr of_link) =
      let is_link = All-contains (IsSoundLink source) source.links of_link.link sound.links of_link.is_link in
      sound_file of_link.number file (ap is_name of_link.named ∙ is_link.name) of_link.image

  each_is_sound : (places : List Place) (files : List File) → AllZip (IsFileAt source images) places files → All IsSoundFile files
  each_is_sound [] [] each = All-nil IsSoundFile
  each_is_sound [] (f ∷ files) each = absurd each
  each_is_sound (p ∷ places) [] each = absurd each
  each_is_sound (p ∷ places) (f ∷ files) each = All-cons IsSoundFile f files (file_is_sound p f each.0) (each_is_sound places files each.1)

-- ---- two files

-- where the lines of the names stand
abbrev places_of : SourceLines → List Place
places_of source = map (λ zone. zone.first.place) source.zones ++ map (λ link. link.place) source.links

module _ (source : SourceLines) (images : List FileImage) where
  -- a file's name, and the place of its line, have one number
  number_of_file : (place : Place) (file : File) → IsFileAt source images place file
      → (k : ℕ) × (slice_get (names_of source) k ≡ Some file.name) × (slice_get (places_of source) k ≡ Some place)
  number_of_file place file (inl of_zone) =
      let n = of_zone.number in
      let (zone, at, (is_at, named)) = some_of (zone_at source n) (λ zone. (zone.first.place ≡ place) × (file.name ≡ zone.name)) of_zone.is_zone in
      let here = at_left (map (λ (z : ZoneLines). z.first.place) source.zones) (map (λ (l : Link). l.place) source.links) n zone.first.place (get_mapped (λ (z : ZoneLines). z.first.place) source.zones n zone at) in
      (n, zone_name source n zone at ∙ ap (λ (x : List ℕ). Some x) (sym named), here ∙ ap (λ (p : Place). Some p) is_at)
  number_of_file place file (inr of_link) =
      let link = of_link.link in
      let m = of_link.is_link.0 in
      let at = get_contained source.links link of_link.is_link in
      let places = map (λ (z : ZoneLines). z.first.place) source.zones in
      let here = at_right places (map (λ (l : Link). l.place) source.links) m link.place (get_mapped (λ (l : Link). l.place) source.links m link at) in
      let many : length places + m ≡ length source.zones + m = omega (arith, length-map source.zones (λ (z : ZoneLines). z.first.place)) in (
        length source.zones + m,
        link_name source m link at ∙ ap (λ (x : List ℕ). Some x) (sym of_link.named),
        subst (λ (k : ℕ). slice_get (places_of source) k ≡ Some place) many (here ∙ ap (λ (p : Place). Some p) of_link.at_place),
      )

  -- files of one name have one line
  same_place : IsSoundSource source → (place other : Place) (file second : File) → IsFileAt source images place file → IsFileAt source images other second
      → file.name ≡ second.name → place ≡ other
  same_place sound place other file second one two same =
      let (i, name, here) = number_of_file place file one in
      let (j, other_name, there) = number_of_file other second two in
      let number = one_number (names_of source) sound.names_differ i j file.name second.name name other_name same in
      same_Some place other (sym here ∙ ap (slice_get (places_of source)) number ∙ there)

  -- the place of a file of a list
  place_at : (places : List Place) (files : List File) → AllZip (IsFileAt source images) places files → (k : ℕ) (file : File) → slice_get files k ≡ Some file
      → (place : Place) × (slice_get places k ≡ Some place) × IsFileAt source images place file
  place_at [] [] each k file at = absurd cc
  place_at [] (f ∷ files) each k file at = absurd each
  place_at (p ∷ places) [] each k file at = absurd each
  place_at (p ∷ places) (f ∷ files) each zero file at = (p, refl, subst (IsFileAt source images p) (same_Some f file at) each.0)
  place_at (p ∷ places) (f ∷ files) each (suc k) file at = place_at places files each.1 k file at

  names_differ : IsSoundSource source → (places : List Place) (files : List File) → AllPairs IsBefore places → AllZip (IsFileAt source images) places files
      → AllPairs (λ file other. file.name ≡ other.name → ⊥) files
  names_differ sound places files rising each i j d lt within same =
      let (p, at_i, one) = place_at places files each i (get_or files i d) (slice_get-get_or files i d (omega (arith, lt, within))) in
      let (q, at_j, two) = place_at places files each j (get_or files j d) (slice_get-get_or files j d within) in
      let before = rising i j p lt (slice_get_within places j q at_j) in
      let is_p = get_or_from_slice_get places i p p at_i in
      let is_q = get_or_from_slice_get places j q p at_j in
      let equal = same_place sound p q (get_or files i d) (get_or files j d) one two same in
      not_before_itself p (subst (IsBefore p) (is_q ∙ sym equal) (subst (λ (x : Place). IsBefore x (get_or places j p)) is_p before))

pub files_are_sound : FilesAreSound
files_are_sound source sound files of = record {
  each = each_is_sound source sound of.images of.of_zones of.places files of.each;
  names_differ = names_differ source of.images sound of.places files of.rising of.each;
}
