-- A source has one list of files, and with files no fault; and so have texts.
use Rattle.std.proofs.Common.{◌≡◌, ◌<◌, ℕ, List, length, inl, inr, sym, ap, subst, ◌∙◌, arith}
use Rattle.std.specs.Prelude.{All, Contains, slice_get}
use Rattle.std.specs.List.{AllZip}
use Rattle.std.proofs.lemmas.List.Elements.{All-contains}
use Rattle.std.proofs.lemmas.Option.{same_Some, slice_get_within}
use Rattle.zic_base.specs.Place.{IsBefore}
use Rattle.zic_base.specs.declared.fault.Place.{Place}
use Rattle.zic_lines.specs.declared.link.Link.{Link}
use Rattle.zic_source.specs.Event.{events_of}
use Rattle.zic_source.specs.Links.{EndsAt}
use Rattle.zic_source.specs.Sound.{IsSoundSource}
use Rattle.zic_source.specs.Source.{SourceLines, ZoneLines, zone_at}
use Rattle.zic_base.proofs.Elements.{contains_got, get_contained, got}
use Rattle.zic_source.proofs.faults.FirstFault.{source_has_no_fault}
use Rattle.zic_source.proofs.faults.Order.{before_before, not_before_itself}
use Rattle.zic_source.proofs.reading.Once.{read_once}
use Rattle.zic_source.proofs.sound.Sources.{source_is_sound}
use Rattle.zic_states.proofs.Lines.{orderly}
use Rattle.zic_rules.specs.Timeline.{zone_of}
use Rattle.zic_rules.specs.Timeline.{IsWholeZone}
use Rattle.zic_files.specs.File.{FileImage, File}
use Rattle.zic_compile.specs.Image.{IsImageOf}
use Rattle.zic_compile.proofs.zone_images.OneFault.{has_end}
use Rattle.zic_compile.proofs.zone_images.OneImage.{one_image, images_without_fault}
use Rattle.zic_compile.specs.Files.{AreImagesOf, IsFileAt, IsFileOfZone, IsFileOfLink, AreFilesOf, IsFaultOfFiles}
use Rattle.zic_compile.specs.Laws.{TextsHaveOneListOfFiles, NoFilesHaveAFault}
use Rattle.zic_base.proofs.Options.{some_of}
use Rattle.zic_base.proofs.OrderedLists.{same_lists, one_zip, zipped, one_rising, one_by_key}
use Rattle.zic_compile.proofs.NamesOf.{one_zone}

module _ (source : SourceLines) (sound : IsSoundSource source) where
  pub is_whole : (n : ℕ) (image : FileImage) → n < length source.zones → IsImageOf (zone_of source n) image → IsWholeZone (zone_of source n)
  is_whole n image is_zone is = record {
    source = sound;
    is_zone = is_zone;
    sound = is.sound;
    orderly = orderly (zone_of source n) sound is.sound;
    has_end = has_end (zone_of source n) is.footer is.is_made;
  }

  -- one list of images
  same_images : (a b : List FileImage) → AreImagesOf source a → AreImagesOf source b → a ≡ b
  same_images a b one other = same_lists a b (omega (arith, one.count, other.count)) (λ k x y at_x at_y.
      let is_x = (one.each k x at_x).image in
      let is_y = (other.each k y at_y).image in
      let within : k < length source.zones = omega (arith, one.count, slice_get_within a k x at_x) in
      one_image (zone_of source k) (is_whole k x within is_x) x y is_x is_y)

  -- ---- one file at a place

  module _ (images : List FileImage) (place : Place) (file other : File) where
    of_zones : IsFileOfZone source images place file → IsFileOfZone source images place other → file ≡ other
    of_zones one two =
        let (zone, at, (is_at, named)) = some_of (zone_at source one.number) (λ zone. (zone.first.place ≡ place) × (file.name ≡ zone.name)) one.is_zone in
        let (second, at_second, (second_at, second_named)) = some_of (zone_at source two.number) (λ zone. (zone.first.place ≡ place) × (other.name ≡ zone.name)) two.is_zone in
        let number = one_by_key (λ (z : ZoneLines). z.first.place) IsBefore not_before_itself source.zones sound.in_order.zones
        one.number two.number zone second at at_second (is_at ∙ sym second_at) in
        let same = same_Some zone second (sym at ∙ ap (zone_at source) number ∙ at_second) in
        let name = named ∙ ap (λ (z : ZoneLines). z.name) same ∙ sym second_named in
        let image = same_Some file.image other.image (sym one.image ∙ ap (slice_get images) number ∙ two.image) in
        λ k. record { name = name k; image = image k }

    of_links : IsFileOfLink source images place file → IsFileOfLink source images place other → file ≡ other
    of_links one two =
        let at = get_contained source.links one.link one.is_link in
        let at_second = get_contained source.links two.link two.is_link in
        let place_number = one_by_key (λ (l : Link). l.place) IsBefore not_before_itself source.links sound.in_order.links
        one.is_link.0 two.is_link.0 one.link two.link at at_second (one.at_place ∙ sym two.at_place) in
        let same = same_Some one.link two.link (sym at ∙ ap (slice_get source.links) place_number ∙ at_second) in
        let name = one.named ∙ ap (λ (l : Link). l.name) same ∙ sym two.named in
        let ends = subst (λ (l : Link). EndsAt source l one.number) same one.ends in
        let number = one_zone source sound two.link one.number two.number ends two.ends in
        let image = same_Some file.image other.image (sym one.image ∙ ap (slice_get images) number ∙ two.image) in
        λ k. record { name = name k; image = image k }

  apart : (images : List FileImage) (place : Place) (file other : File) → IsFileOfZone source images place file → IsFileOfLink source images place other → ⊥
  apart images place file other one two =
      let (zone, at, (is_at, named)) = some_of (zone_at source one.number) (λ zone. (zone.first.place ≡ place) × (file.name ≡ zone.name)) one.is_zone in
      let others = All-contains (λ (z : ZoneLines). All (λ (l : Link). z.first.place ≡ l.place → ⊥) source.links) source.zones zone sound.in_order.apart
      (contains_got source.zones one.number zone at) in
      All-contains (λ (l : Link). zone.first.place ≡ l.place → ⊥) source.links two.link others two.is_link (is_at ∙ sym two.at_place)

  one_file : (images : List FileImage) (place : Place) (file other : File) → IsFileAt source images place file → IsFileAt source images place other → file ≡ other
  one_file images place file other (inl one) (inl two) = of_zones images place file other one two
  one_file images place file other (inl one) (inr two) = absurd (apart images place file other one two)
  one_file images place file other (inr one) (inl two) = absurd (apart images place other file two one)
  one_file images place file other (inr one) (inr two) = of_links images place file other one two

  -- ---- one list of files

  -- the line of a file has a place in each list of files
  has_place : (images : List FileImage) (place : Place) (file : File) (files : List File) → IsFileAt source images place file → (of : AreFilesOf source files) → Contains of.places place
  has_place images place file files (inl of_zone) of =
      let (zone, at, (is_at, named)) = some_of (zone_at source of_zone.number) (λ zone. (zone.first.place ≡ place) × (file.name ≡ zone.name)) of_zone.is_zone in
      subst (Contains of.places) is_at (All-contains (λ (z : ZoneLines). Contains of.places z.first.place) source.zones zone of.zones (contains_got source.zones of_zone.number zone at))
  has_place images place file files (inr of_link) of =
      subst (Contains of.places) of_link.at_place (All-contains (λ (l : Link). Contains of.places l.place) source.links of_link.link of.links of_link.is_link)

  into_places : (a b : List File) (one : AreFilesOf source a) (other : AreFilesOf source b) → (place : Place) → Contains one.places place → Contains other.places place
  into_places a b one other place has =
      let (file, is) = zipped (IsFileAt source one.images) one.places a one.each place has in
      has_place one.images place file b is other

  pub one_list_of_files : (a b : List File) → AreFilesOf source a → AreFilesOf source b → a ≡ b
  one_list_of_files a b one other =
      let images = same_images one.images other.images one.of_zones other.of_zones in
      let places = one_rising IsBefore (λ x y before after. not_before_itself x (before_before x y x before after)) one.places other.places one.rising other.rising
      (into_places a b one other) (into_places b a other one) in
      let each = subst (λ (ps : List Place). AllZip (IsFileAt source one.images) ps a) places one.each in
      let same = subst (λ (xs : List FileImage). AllZip (IsFileAt source xs) other.places a) images each in
      one_zip (IsFileAt source other.images) other.places a b (one_file other.images) same other.each

  pub no_fault : (files : List File) → AreFilesOf source files → (fault : _) → IsFaultOfFiles source fault → ⊥
  no_fault files of fault faulty =
      let n = faulty.number in
      let (image, at) = got of.images n (omega (arith, of.of_zones.count, faulty.is_zone)) in
      let is = (of.of_zones.each n image at).image in
      images_without_fault (zone_of source n) (is_whole n image faulty.is_zone is) image is fault faulty.fault_of_zone

-- ---- texts

pub one_list_of_texts : TextsHaveOneListOfFiles
one_list_of_texts texts a b one other =
    let same = read_once (events_of texts) one.source other.source one.is_source.read other.is_source.read in
    let sound = source_is_sound texts other.source other.is_source in
    one_list_of_files other.source sound a b (subst (λ (source : SourceLines). AreFilesOf source a) same one.are_files) other.are_files

pub no_fault_of_texts : NoFilesHaveAFault
no_fault_of_texts texts files fault of (inl first) = source_has_no_fault texts of.source fault of.is_source first
no_fault_of_texts texts files fault of (inr (source, is_source, faulty)) =
    let same = read_once (events_of texts) source of.source is_source.read of.is_source.read in
    let sound = source_is_sound texts of.source of.is_source in
    no_fault of.source sound files of.are_files fault (subst (λ (s : SourceLines). IsFaultOfFiles s fault) same faulty)
