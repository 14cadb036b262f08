-- Laws of what is placed in a folder.
use Rattle.std.specs.Prelude.{◌≡◌, ℕ, true, List, ◌∷◌, ◌++◌, Some}
use Rattle.zic_lines.specs.Name.{is_name}
use Rattle.zic_io.specs.Tree.{Linked, Placed}
use Rattle.zic_io.specs.declared.link_kind.LinkedFolder.{LinkedFolder}
use Rattle.zic_io.specs.declared.link_kind.LinkKind.TheVariants as kinds
use Rattle.zic_bulk.specs.Linking.{AreBuiltLinked, LinkLeads, target_of}
use Rattle.zic_bulk.specs.Tree.{AreBuilt}

-- Of texts at most one list of files can be placed.
abbrev pub FilesArePlacedOneWay : Type 0
FilesArePlacedOneWay =
    (texts : List (List ℕ)) (folder : List ℕ) (before a b : List Placed)
    → AreBuilt texts folder (Some before) (Some a) → AreBuilt texts folder (Some before) (Some b) → a ≡ b

-- Of texts at most one list of files and one of links can be placed.
abbrev pub LinksArePlacedOneWay : Type 0
LinksArePlacedOneWay =
    (texts : List (List ℕ)) (folder : LinkedFolder) (before a b : List Placed) (links x y : List Linked)
    → AreBuiltLinked texts folder (Some before) (Some a) (Some links) (Some x)
    → AreBuiltLinked texts folder (Some before) (Some b) (Some links) (Some y) → (a ≡ b) × (x ≡ y)

-- A symbolic link at a name leads from its own folder to the file of the zone.
abbrev pub SymbolicLinksLead : Type 0
SymbolicLinksLead =
    (folder name zone : List ℕ) → is_name name ≡ true
    → LinkLeads (folder ++ 47 ∷ name) (target_of kinds.Symbolic folder name zone) (folder ++ 47 ∷ zone)
