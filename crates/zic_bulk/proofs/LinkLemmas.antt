-- The files of zones, and the links of Link lines, so far.
use Rattle.std.proofs.Common.{◌≡◌, ◌≢◌, ◌<◌, ◌+◌, ℕ, inl, inr, ⊎_elim, List, [], ◌∷◌, ◌++◌, length, map, take, drop, Option, Some, refl, sym, ap, subst, ◌∙◌, arith}
use Rattle.std.specs.Prelude.{All, Contains, IfSome, IsSomeAnd, slice_get}
use Rattle.std.specs.List.{AllZip}
use Rattle.std.proofs.lemmas.List.{take_all}
use Rattle.std.proofs.lemmas.List.Elements.{All-contains, Contains-append_right}
use Rattle.std.proofs.lemmas.Option.{same_Some, slice_get_cases, slice_get_within}
use Rattle.std.proofs.lemmas.Slice.Zip.{AllZip-left, AllZip-long}
use Rattle.zic_base.specs.Place.{IsBefore}
use Rattle.zic_base.proofs.Elements.{cons_cases, contains_got, first_contained, get_contained, got}
use Rattle.zic_base.proofs.Options.{if_at, some_of}
use Rattle.zic_base.proofs.OrderedLists.{one_by_key}
use Rattle.zic_lines.specs.declared.link.Link.{Link}
use Rattle.zic_source.specs.Event.{events_of}
use Rattle.zic_source.specs.Grammar.{IsSource}
use Rattle.zic_source.specs.Sound.{IsSoundSource}
use Rattle.zic_source.specs.Source.{SourceLines, ZoneLines, zone_at}
use Rattle.zic_source.proofs.faults.Order.{not_before_itself}
use Rattle.zic_source.proofs.reading.Once.{read_once}
use Rattle.zic_files.specs.File.{File}
use Rattle.zic_files.specs.Sound.{AreSoundFiles}
use Rattle.zic_compile.specs.Build.{AreFilesOfTexts}
use Rattle.zic_compile.specs.Files.{AreFilesOf, IsFileAt}
use Rattle.zic_compile.proofs.SoundFiles.{files_are_sound}
use Rattle.zic_io.proofs.ListLemmas.{taken, parts}
use Rattle.zic_bulk.proofs.TreeLemmas.{file_more, file_stop, gains_and_none, gains_both, gains_none}
use Rattle.zic_bulk.specs.Failing.{IsFailureOfFolder, IsUnplaced}
use Rattle.zic_bulk.specs.Linking.{AreBuiltLinked, IsFailureOfLinked, IsFailureOfLinks, IsFileNamed, IsLinkOf, IsUnlinked}
use Rattle.zic_base.specs.Growth.{Gains}
use Rattle.zic_io.specs.Tree.{Linked, Placed}
use Rattle.zic_bulk.specs.Tree.{in_folder}
use Rattle.zic_io.specs.declared.failure.Failure.{Failure}
use Rattle.zic_io.specs.declared.link_kind.LinkedFolder.{LinkedFolder}

-- ---- lists

-- each member of the first list has one of the second
zipped_among : {X Y : Type 0} (Q : X → Y → Type 0) (xs : List X) (ys : List Y) → AllZip Q xs ys → (x : X) → Contains xs x → (y : Y) × Contains ys y × Q x y
zipped_among Q [] ys each x has = absurd (omega (arith, has.1))
zipped_among Q (z ∷ xs) [] each x has = absurd each
zipped_among {X} {Y} Q (z ∷ xs) (y ∷ ys) each x has = ⊎_elim
    (λ same. (y, first_contained y ys, subst (λ (w : X). Q w y) same each.0))
    (λ later. let rest = zipped_among Q xs ys each.1 x later in (rest.0, Contains-append_right (y ∷ []) ys rest.0 rest.1, rest.2))
    (cons_cases z xs x has)

-- one pair more
zip_more : {X Y : Type 0} (Q : X → Y → Type 0) (xs : List X) (ys : List Y) (x : X) (y : Y) → AllZip Q xs ys → Q x y → AllZip Q (xs ++ x ∷ []) (ys ++ y ∷ [])
zip_more Q [] [] x y each last = (last, tt)
zip_more Q [] (b ∷ ys) x y each last = absurd each
zip_more Q (a ∷ xs) [] x y each last = absurd each
zip_more Q (a ∷ xs) (b ∷ ys) x y each last = (each.0, zip_more Q xs ys x y each.1 last)

-- ---- the files of zones

module _ (source : SourceLines) (sound : IsSoundSource source) (files : List File) (of : AreFilesOf source files) where
  -- the file at the place of a Zone line has the zone's name
  name_at : (n : ℕ) (zone : ZoneLines) → zone_at source n ≡ Some zone → (file : File) → IsFileAt source of.images zone.first.place file → file.name ≡ zone.name
  name_at n zone at file (inl of_zone) =
      let (other, at_other, (is_at, named)) = some_of (zone_at source of_zone.number) (λ z. (z.first.place ≡ zone.first.place) × (file.name ≡ z.name)) of_zone.is_zone in
      let number = one_by_key (λ (z : ZoneLines). z.first.place) IsBefore not_before_itself source.zones sound.in_order.zones
      of_zone.number n other zone at_other at is_at in
      let same = same_Some other zone (sym at_other ∙ ap (zone_at source) number ∙ at) in
      named ∙ ap (λ (z : ZoneLines). z.name) same
  name_at n zone at file (inr of_link) =
      let others = All-contains (λ (z : ZoneLines). All (λ (l : Link). z.first.place ≡ l.place → ⊥) source.links) source.zones zone sound.in_order.apart
      (contains_got source.zones n zone at) in
      absurd (All-contains (λ (l : Link). zone.first.place ≡ l.place → ⊥) source.links of_link.link others of_link.is_link (sym of_link.at_place))

  -- each zone has a file
  file_of_zone : (zone : ZoneLines) → Contains source.zones zone → (file : File) × IsFileNamed files zone file
  file_of_zone zone has =
      let placed = All-contains (λ (z : ZoneLines). Contains of.places z.first.place) source.zones zone of.zones has in
      let (file, among, is) = zipped_among (IsFileAt source of.images) of.places files of.each zone.first.place placed in
      (file, record { among = among; named = name_at has.0 zone (get_contained source.zones zone has) file is })

  -- no zone is without a file
  pub zone_is_found : (n : ℕ) (name : List ℕ) → n < length source.zones → IfSome (zone_at source n) (λ zone. name ≡ zone.name) → All (λ file. file.name ≢ name) files → ⊥
  zone_is_found n name lt named none =
      let (zone, at) = got source.zones n lt in
      let (file, is) = file_of_zone zone (contains_got source.zones n zone at) in
      All-contains (λ (f : File). f.name ≢ name) files file none is.among (is.named ∙ sym (if_at (zone_at source n) (λ z. name ≡ z.name) zone named at))

  files_of_zones : (zones : List ZoneLines) → ((zone : ZoneLines) → Contains zones zone → Contains source.zones zone) → (of_zones : List File) × AllZip (IsFileNamed files) zones of_zones
  files_of_zones [] into = ([], tt)
  files_of_zones (zone ∷ zones) into =
      let first = file_of_zone zone (into zone (first_contained zone zones)) in
      let rest = files_of_zones zones (λ other has. into other (Contains-append_right (zone ∷ []) zones other has)) in
      (first.0 ∷ rest.0, (first.1, rest.1))

  -- all zones have files
  pub zone_files : (of_zones : List File) × AllZip (IsFileNamed files) source.zones of_zones
  zone_files = files_of_zones source.zones (λ zone has. has)

-- files of one name are one
pub one_file : (files : List File) → AreSoundFiles files → (name : List ℕ) (i j : ℕ) (a b : File) → slice_get files i ≡ Some a → slice_get files j ≡ Some b → a.name ≡ b.name → a ≡ b
one_file files sound name i j a b at_a at_b same =
    let number = one_by_key (λ (f : File). f.name) (λ x y. x ≢ y) (λ x differ. differ refl) files sound.names_differ i j a b at_a at_b same in
    same_Some a b (sym at_a ∙ ap (slice_get files) number ∙ at_b)

-- the file that is found for a zone is that of the zone
pub found_file : (files : List File) → AreSoundFiles files → (zones : List ZoneLines) (of_zones : List File) → AllZip (IsFileNamed files) zones of_zones → (k i : ℕ) → k < length zones
    → IfSome (slice_get zones k) (λ zone. IsSomeAnd (slice_get files i) (λ file. file.name ≡ zone.name)) → slice_get of_zones k ≡ slice_get files i
found_file files sound zones of_zones each k i lt found =
    let (zone, at) = got zones k lt in
    let (file, at_file, named) = some_of (slice_get files i) (λ f. f.name ≡ zone.name) (if_at (slice_get zones k) (λ z. IsSomeAnd (slice_get files i) (λ f. f.name ≡ z.name)) zone found at) in
    let left = if_at (slice_get zones k) (λ z. IsSomeAnd (slice_get of_zones k) (IsFileNamed files z)) zone (AllZip-left (IsFileNamed files) zones of_zones each k) at in
    let (own, at_own, is) = some_of (slice_get of_zones k) (IsFileNamed files zone) left in
    let same = one_file files sound zone.name is.among.0 i own file (get_contained files own is.among) at_file (is.named ∙ sym named) in
    at_own ∙ ap (λ (f : File). Some f) same ∙ sym at_file

-- the file that is found for a zone is there
pub found_within : (files : List File) (zones : List ZoneLines) (k i : ℕ) → k < length zones
    → IfSome (slice_get zones k) (λ zone. IsSomeAnd (slice_get files i) (λ file. file.name ≡ zone.name)) → i < length files
found_within files zones k i lt found =
    let (zone, at) = got zones k lt in
    let (file, at_file, named) = some_of (slice_get files i) (λ f. f.name ≡ zone.name) (if_at (slice_get zones k) (λ z. IsSomeAnd (slice_get files i) (λ f. f.name ≡ z.name)) zone found at) in
    slice_get_within files i file at_file

-- the files of the zones so far
pub record AreZonesSoFar (source : SourceLines) (files : List File) (folder : List ℕ) (old new : Option (List Placed)) (i : ℕ) : Type 0 where
  pub of_zones : List File
  pub each : AllZip (IsFileNamed files) source.zones of_zones
  pub gained : Gains old new (map (in_folder folder) (take i of_zones))

module _ (source : SourceLines) (sound : IsSoundSource source) (files : List File) (of : AreFilesOf source files) (folder : List ℕ) where
  -- no file yet
  pub no_zones : (tree : Option (List Placed)) → AreZonesSoFar source files folder tree tree 0
  no_zones tree = let all = zone_files source sound files of in record { of_zones = all.0; each = all.1; gained = gains_none tree }

  -- the file of this number is that of this zone
  own_file : (of_zones : List File) → AllZip (IsFileNamed files) source.zones of_zones → (k i : ℕ) → k < length source.zones
      → IfSome (zone_at source k) (λ zone. IsSomeAnd (slice_get files i) (λ file. file.name ≡ zone.name)) → (P : File → Type 0) → IfSome (slice_get files i) P → IfSome (slice_get of_zones k) P
  own_file of_zones each k i lt found P holds =
      subst (λ (o : Option File). IfSome o P) (sym (found_file files (files_are_sound source sound files of) source.zones of_zones each k i lt found)) holds

  -- one file more
  pub zone_more : (k i : ℕ) (old mid new : Option (List Placed)) → k < length source.zones → AreZonesSoFar source files folder old mid k
      → IfSome (zone_at source k) (λ zone. IsSomeAnd (slice_get files i) (λ file. file.name ≡ zone.name))
      → IfSome (slice_get files i) (λ file. Gains mid new (in_folder folder file ∷ [])) → AreZonesSoFar source files folder old new (k + 1)
  zone_more k i old mid new lt before found more = record {
    of_zones = before.of_zones;
    each = before.each;
    gained = file_more (in_folder folder) before.of_zones k old mid new (omega (arith, lt, AllZip-long (IsFileNamed files) source.zones before.of_zones before.each)) before.gained
        (own_file before.of_zones before.each k i lt found (λ file. Gains mid new (in_folder folder file ∷ [])) more);
  }

  -- the file at which it ends
  pub zone_stop : (IsRefused : List ℕ → Type 0) (k i : ℕ) (old mid new : Option (List Placed)) (failure : Failure) → k < length source.zones → AreZonesSoFar source files folder old mid k
      → IfSome (zone_at source k) (λ zone. IsSomeAnd (slice_get files i) (λ file. file.name ≡ zone.name)) → Gains mid new []
      → IfSome (slice_get files i) (λ file. IsUnplaced IsRefused folder file failure)
      → (zones : List File) × AllZip (IsFileNamed files) source.zones zones × IsFailureOfFolder IsRefused folder zones old new failure
  zone_stop IsRefused k i old mid new failure lt before found none stop = (
    before.of_zones,
    before.each,
    file_stop IsRefused folder before.of_zones k old mid new failure (omega (arith, lt, AllZip-long (IsFileNamed files) source.zones before.of_zones before.each)) before.gained none
        (own_file before.of_zones before.each k i lt found (λ file. IsUnplaced IsRefused folder file failure) stop),
  )

-- the files of all zones
pub all_zones : (source : SourceLines) (files : List File) (folder : List ℕ) (old new : Option (List Placed)) (i : ℕ) → i ≡ length source.zones → AreZonesSoFar source files folder old new i
    → (zones : List File) × AllZip (IsFileNamed files) source.zones zones × Gains old new (map (in_folder folder) zones)
all_zones source files folder old new i is so_far =
    let whole = take_all i so_far.of_zones (omega (arith, is, AllZip-long (IsFileNamed files) source.zones so_far.of_zones so_far.each)) in
    (so_far.of_zones, so_far.each, subst (λ (fs : List File). Gains old new (map (in_folder folder) fs)) whole so_far.gained)

-- ---- the links of Link lines

-- the links of the lines so far
pub record AreLinksSoFar (source : SourceLines) (folder : LinkedFolder) (old new : Option (List Linked)) (i : ℕ) : Type 0 where
  pub links : List Linked
  pub each : AllZip (IsLinkOf source folder) (take i source.links) links
  pub gained : Gains old new links

-- one link more
pub link_more : (source : SourceLines) (folder : LinkedFolder) (i : ℕ) (old mid new : Option (List Linked)) → i < length source.links → AreLinksSoFar source folder old mid i
    → IfSome (slice_get source.links i) (λ line. (made : Linked) × IsLinkOf source folder line made × Gains mid new (made ∷ [])) → AreLinksSoFar source folder old new (i + 1)
link_more source folder i old mid new lt before more =
    elim (slice_get_cases source.links i).1 [
      | inl some ↦
          let line = some.0 in
          let (made, is, gained) = if_at (slice_get source.links i) (λ line. (made : Linked) × IsLinkOf source folder line made × Gains mid new (made ∷ [])) line more some.2 in
          record {
            links = before.links ++ made ∷ [];
            each = subst (λ (lines : List Link). AllZip (IsLinkOf source folder) lines (before.links ++ made ∷ [])) (sym (taken source.links i line lt some.3))
                (zip_more (IsLinkOf source folder) (take i source.links) before.links line made before.each is);
            gained = gains_both old mid new before.links (made ∷ []) before.gained gained;
          }
      | inr past ↦ absurd (omega (arith, lt, past.0))
    ]

-- the line at which it ends
pub link_stop : (IsRefused : List ℕ → Type 0) (source : SourceLines) (folder : LinkedFolder) (i : ℕ) (old mid new : Option (List Linked)) (failure : Failure) → i < length source.links
    → AreLinksSoFar source folder old mid i → Gains mid new [] → IfSome (slice_get source.links i) (λ line. IsUnlinked IsRefused folder line.name failure)
    → IsFailureOfLinks IsRefused source folder old new failure
link_stop IsRefused source folder i old mid new failure lt before none stop =
    elim (slice_get_cases source.links i).1 [
      | inl some ↦
          let line = some.0 in
          record {
            before = take i source.links;
            link = line;
            after = drop (i + 1) source.links;
            parts = parts source.links i line lt some.3;
            of_links = before.links;
            each_link = before.each;
            linked = gains_and_none old mid new before.links before.gained none;
            unlinked = if_at (slice_get source.links i) (λ line. IsUnlinked IsRefused folder line.name failure) line stop some.2;
          }
      | inr past ↦ absurd (omega (arith, lt, past.0))
    ]

-- no link yet
pub no_links : (source : SourceLines) (folder : LinkedFolder) (tree : Option (List Linked)) → AreLinksSoFar source folder tree tree 0
no_links source folder tree = record { links = []; each = tt; gained = gains_none tree }

-- ---- all of a source

-- the files of texts are those of their source
pub files_of_source : (texts : List (List ℕ)) (source : SourceLines) (files : List File) → IsSource texts source → AreFilesOfTexts texts files → AreFilesOf source files
files_of_source texts source files is of =
    subst (λ (s : SourceLines). AreFilesOf s files) (read_once (events_of texts) of.source source of.is_source.read is.read) of.are_files

module _ (texts : List (List ℕ)) (source : SourceLines) (is_source : IsSource texts source) (files : List File) (of : AreFilesOf source files) (folder : LinkedFolder) where
  -- not all zones have their files
  pub zones_stop : (IsRefused : List ℕ → Type 0) (old new : Option (List Placed)) (links links' : Option (List Linked)) (failure : Failure)
      → ((zones : List File) × AllZip (IsFileNamed files) source.zones zones × IsFailureOfFolder IsRefused folder.path.now zones old new failure)
      → Gains links links' [] → IsFailureOfLinked IsRefused texts folder old new links links' failure
  zones_stop IsRefused old new links links' failure stop none = record {
    source = source;
    is_source = is_source;
    files = files;
    are_files = of;
    of_zones = stop.0;
    each_zone = stop.1;
    in_folder = inl (stop.2, none);
  }

  module _ (old mid new : Option (List Placed)) (links links' links'' : Option (List Linked))
      (zones : (fs : List File) × AllZip (IsFileNamed files) source.zones fs × Gains old mid (map (in_folder folder.path.now) fs)) (none : Gains mid new []) (before : Gains links links' []) where
    -- not all links are made
    pub links_stop : (IsRefused : List ℕ → Type 0) (failure : Failure) → IsFailureOfLinks IsRefused source folder links' links'' failure
        → IsFailureOfLinked IsRefused texts folder old new links links'' failure
    links_stop IsRefused failure stop = record {
      source = source;
      is_source = is_source;
      files = files;
      are_files = of;
      of_zones = zones.0;
      each_zone = zones.1;
      in_folder = inr (
        gains_and_none old mid new (map (in_folder folder.path.now) zones.0) zones.2 none,
        record {
          before = stop.before;
          link = stop.link;
          after = stop.after;
          parts = stop.parts;
          of_links = stop.of_links;
          each_link = stop.each_link;
          linked = gains_both links links' links'' [] stop.of_links before stop.linked;
          unlinked = stop.unlinked;
        },
      );
    }

    -- all is placed
    pub all_placed : (source.zones ≢ [] → folder.path.now ≢ []) → ((made : List Linked) × AllZip (IsLinkOf source folder) source.links made × Gains links' links'' made)
        → AreBuiltLinked texts folder old new links links''
    all_placed named made = record {
      source = source;
      is_source = is_source;
      files = files;
      are_files = of;
      named = named;
      of_zones = zones.0;
      each_zone = zones.1;
      placed = gains_and_none old mid new (map (in_folder folder.path.now) zones.0) zones.2 none;
      of_links = made.0;
      each_link = made.1;
      linked = gains_both links links' links'' [] made.0 before made.2;
    }
