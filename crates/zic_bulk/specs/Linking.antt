-- A folder in which the names of Link lines are links to the files of zones. Own choice: zic makes
-- hard links to the names that the lines give.
use Rattle.std.specs.Prelude.{◌≡◌, ◌≢◌, ◌⊎◌, ◌==◌, ℕ, codes, true, List, [], ◌∷◌, ◌++◌, map, if◌then◌else◌, Option, All, Contains, IsSomeAnd}
use Rattle.std.specs.List.{AllZip, flat_map}
use Rattle.zic_lines.specs.Name.{is_name_part}
use Rattle.zic_lines.specs.declared.link.Link.{Link}
use Rattle.zic_source.specs.Grammar.{IsSource}
use Rattle.zic_source.specs.Links.{EndsAt}
use Rattle.zic_source.specs.Source.{SourceLines, ZoneLines, zone_at}
use Rattle.zic_files.specs.File.{File}
use Rattle.zic_compile.specs.Files.{AreFilesOf}
use Rattle.zic_io.specs.declared.failure.Failure.{Failure}
use Rattle.zic_io.specs.declared.failure.Failure.TheVariants as failures
use Rattle.zic_io.specs.declared.link_kind.LinkKind.{LinkKind}
use Rattle.zic_io.specs.declared.link_kind.LinkKind.TheVariants as kinds
use Rattle.zic_io.specs.declared.link_kind.LinkedFolder.{LinkedFolder}
use Rattle.zic_io.specs.Failing.{IsCannotWrite}
use Rattle.zic_bulk.specs.Failing.{IsFailureOfFolder}
use Rattle.zic_base.specs.Growth.{Gains}
use Rattle.zic_io.specs.Tree.{Linked, Placed}
use Rattle.zic_bulk.specs.Tree.{in_folder}

-- the way from the folder of a name's file up to the folder of the tree: `../` for each slash
abbrev pub way_up : List ℕ → List ℕ
way_up name = flat_map (λ byte. if byte == 47 then codes "../" else []) name

-- the target of a link at a name: of a hard link the path of the zone's file, of a symbolic link the
-- way to it from the folder of the link
abbrev pub target_of : LinkKind → List ℕ → List ℕ → List ℕ → List ℕ
target_of kinds.Hard folder name zone = folder ++ 47 ∷ zone
target_of kinds.Symbolic folder name zone = way_up name ++ zone

-- A target leads from a folder to a path: down, which takes the folder's path and a slash before it, or
-- first up, by `../`, out of a folder with a proper name.
pub data LeadsFrom : List ℕ → List ℕ → List ℕ → Type 0 where
  down : (folder way : List ℕ) → LeadsFrom folder way (folder ++ 47 ∷ way)
  up : (folder name way path : List ℕ) → is_name_part name ≡ true → All (λ byte. byte ≢ 47) name
      → LeadsFrom folder way path → LeadsFrom (folder ++ 47 ∷ name) (codes "../" ++ way) path

-- the target, read from the folder of the link at a path, leads to another path
pub record LinkLeads (link target path : List ℕ) : Type 0 where
  pub folder : List ℕ
  pub name : List ℕ
  pub is : link ≡ folder ++ 47 ∷ name
  pub last : All (λ byte. byte ≢ 47) name
  pub leads : LeadsFrom folder target path

-- the link in a folder at a name, to the file of the zone of another name
abbrev pub link_in : LinkedFolder → List ℕ → List ℕ → Linked
link_in folder name zone =
    let path = folder.path.now in
    record { kind = folder.kind; path = path ++ 47 ∷ name; target = target_of folder.kind path name zone }

-- the link of a Link line: at the line's name, to the file of the zone at the end of its chain
pub record IsLinkOf (source : SourceLines) (folder : LinkedFolder) (link : Link) (made : Linked) : Type 0 where
  pub number : ℕ
  pub ends : EndsAt source link number
  pub is : IsSomeAnd (zone_at source number) (λ zone. made ≡ link_in folder link.name zone.name)

-- the file of a zone: the one of these that has the zone's name
pub record IsFileNamed (files : List File) (zone : ZoneLines) (file : File) : Type 0 where
  pub among : Contains files file
  pub named : file.name ≡ zone.name

-- The files of the zones were placed in the folder, in the order of the texts and their lines, and a
-- link was made for each Link line, in that order. Where there is a zone, the folder has a name.
pub record AreBuiltLinked (texts : List (List ℕ)) (folder : LinkedFolder)
    (old new : Option (List Placed)) (links links' : Option (List Linked)) : Type 0 where
  pub source : SourceLines
  pub is_source : IsSource texts source
  pub files : List File
  pub are_files : AreFilesOf source files
  pub named : source.zones ≢ [] → folder.path.now ≢ []
  pub of_zones : List File
  pub each_zone : AllZip (IsFileNamed files) source.zones of_zones
  pub placed : Gains old new (map (in_folder folder.path.now) of_zones)
  pub of_links : List Linked
  pub each_link : AllZip (IsLinkOf source folder) source.links of_links
  pub linked : Gains links links' of_links

-- why there is no link at a name: memory ran out, or the tree refused the path
abbrev pub IsUnlinked : (List ℕ → Type 0) → LinkedFolder → List ℕ → Failure → Type 0
IsUnlinked IsRefused folder name failure =
    let path = folder.path.now ++ 47 ∷ name in
    (failure ≡ failures.Memory) ⊎ (IsCannotWrite path failure × IsRefused path)

-- why not all links are made in a folder: those of the lines before one are, and its own isn't
pub record IsFailureOfLinks (IsRefused : List ℕ → Type 0) (source : SourceLines)
    (folder : LinkedFolder) (links links' : Option (List Linked)) (failure : Failure) : Type 0 where
  pub before : List Link
  pub link : Link
  pub after : List Link
  pub parts : source.links ≡ before ++ link ∷ after
  pub of_links : List Linked
  pub each_link : AllZip (IsLinkOf source folder) before of_links
  pub linked : Gains links links' of_links
  pub unlinked : IsUnlinked IsRefused folder link.name failure

-- the texts have files, and not all files of zones are placed in the folder, or all of them are, and
-- not all links are made
pub record IsFailureOfLinked (IsRefused : List ℕ → Type 0) (texts : List (List ℕ))
    (folder : LinkedFolder) (old new : Option (List Placed)) (links links' : Option (List Linked))
    (failure : Failure) : Type 0 where
  pub source : SourceLines
  pub is_source : IsSource texts source
  pub files : List File
  pub are_files : AreFilesOf source files
  pub of_zones : List File
  pub each_zone : AllZip (IsFileNamed files) source.zones of_zones
  pub in_folder : (IsFailureOfFolder IsRefused folder.path.now of_zones old new failure × Gains links links' [])
      ⊎ (Gains old new (map (in_folder folder.path.now) of_zones)
      × IsFailureOfLinks IsRefused source folder links links' failure)
