-- What is placed is one list.
use Rattle.std.proofs.Common.{◌≡◌, List, ◌++◌, map, sym, ap, subst, ◌∙◌}
use Rattle.std.specs.List.{AllZip}
use Rattle.std.proofs.lemmas.Option.{same_Some}
use Rattle.zic_base.proofs.Elements.{get_contained}
use Rattle.zic_base.proofs.Options.{some_of}
use Rattle.zic_base.proofs.OrderedLists.{one_zip}
use Rattle.zic_lines.specs.declared.link.Link.{Link}
use Rattle.zic_source.specs.Event.{events_of}
use Rattle.zic_source.specs.Sound.{IsSoundSource}
use Rattle.zic_source.specs.Source.{SourceLines, ZoneLines, zone_at}
use Rattle.zic_source.proofs.reading.Once.{read_once}
use Rattle.zic_source.proofs.sound.Sources.{source_is_sound}
use Rattle.zic_files.specs.File.{File}
use Rattle.zic_files.specs.Sound.{AreSoundFiles}
use Rattle.zic_compile.specs.Files.{AreFilesOf}
use Rattle.zic_compile.proofs.NamesOf.{one_zone}
use Rattle.zic_compile.proofs.OneFiles.{one_list_of_files, one_list_of_texts}
use Rattle.zic_compile.proofs.SoundFiles.{files_are_sound}
use Rattle.zic_io.specs.declared.link_kind.LinkedFolder.{LinkedFolder}
use Rattle.zic_io.specs.Tree.{Linked}
use Rattle.zic_bulk.specs.Laws.{FilesArePlacedOneWay, LinksArePlacedOneWay}
use Rattle.zic_bulk.specs.Linking.{IsFileNamed, IsLinkOf, link_in}
use Rattle.zic_bulk.specs.Tree.{in_folder}
use Rattle.zic_bulk.proofs.LinkLemmas.{one_file}

pub one_building : FilesArePlacedOneWay
one_building texts folder before a b one other =
    let files = one_list_of_texts texts one.files other.files one.are_files other.are_files in
    one.placed ∙ ap (λ (fs : List File). before ++ map (in_folder folder) fs) files ∙ sym other.placed

-- one file of a zone's name
one_named : (files : List File) → AreSoundFiles files → (zone : ZoneLines) (a b : File) → IsFileNamed files zone a → IsFileNamed files zone b → a ≡ b
one_named files sound zone a b one other =
    one_file files sound zone.name one.among.0 other.among.0 a b (get_contained files a one.among) (get_contained files b other.among) (one.named ∙ sym other.named)

-- one link of a line
one_link : (source : SourceLines) → IsSoundSource source → (folder : LinkedFolder) (link : Link) (a b : Linked) → IsLinkOf source folder link a → IsLinkOf source folder link b → a ≡ b
one_link source sound folder link a b one other =
    let number = one_zone source sound link one.number other.number one.ends other.ends in
    let (zone, at, is) = some_of (zone_at source one.number) (λ (z : ZoneLines). a ≡ link_in folder link.name z.name) one.is in
    let (zone₂, at₂, is₂) = some_of (zone_at source other.number) (λ (z : ZoneLines). b ≡ link_in folder link.name z.name) other.is in
    let same = same_Some zone zone₂ (sym at ∙ ap (zone_at source) number ∙ at₂) in
    is ∙ ap (λ (z : ZoneLines). link_in folder link.name z.name) same ∙ sym is₂

pub one_linked_building : LinksArePlacedOneWay
one_linked_building texts folder before a b links x y one other =
    let source = other.source in
    let sound = source_is_sound texts source other.is_source in
    let same = read_once (events_of texts) one.source source one.is_source.read other.is_source.read in
    let files = one_list_of_files source sound one.files other.files (subst (λ (s : SourceLines). AreFilesOf s one.files) same one.are_files) other.are_files in
    let zones = subst (λ (fs : List File). AllZip (IsFileNamed fs) source.zones one.of_zones) files
    (subst (λ (s : SourceLines). AllZip (IsFileNamed one.files) s.zones one.of_zones) same one.each_zone) in
    let placed = one_zip (IsFileNamed other.files) source.zones one.of_zones other.of_zones (one_named other.files (files_are_sound source sound other.files other.are_files)) zones other.each_zone in
    let each = subst (λ (s : SourceLines). AllZip (IsLinkOf s folder) s.links one.of_links) same one.each_link in
    let made = one_zip (IsLinkOf source folder) source.links one.of_links other.of_links (one_link source sound folder) each other.each_link in (
      one.placed ∙ ap (λ (fs : List File). before ++ map (in_folder folder.path.now) fs) placed ∙ sym other.placed,
      one.linked ∙ ap (λ (ls : List Linked). links ++ ls) made ∙ sym other.linked,
    )
