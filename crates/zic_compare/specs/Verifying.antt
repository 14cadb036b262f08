-- Whether a tree has the files of a source, and the lines where it doesn't: own choice.
use Rattle.std.specs.Prelude.{◌≡◌, ◌⊎◌, ℕ, bytes_eq, codes, if◌then◌else◌, List, [], ◌∷◌, ◌++◌, map, Any, Option, Some, None}
use Rattle.std.specs.List.{AllZip, flat_map}
use Rattle.zic_compare.specs.Files.{HasNone}
use Rattle.zic_files.specs.File.{File}
use Rattle.zic_files.specs.Tree.{Gains, Reply, reply_of}

-- a word and the name of a file
abbrev pub finding_line : List ℕ → List ℕ → List ℕ
finding_line word name = word ++ (name ++ 10 ∷ [])

-- The line of a file, of whose name a tree gave these bytes or none: `missing NAME` where it gave none, `differs NAME` where it gave others
-- than the file's, and nothing where it gave those.
abbrev pub finding : File → Option (List ℕ) → List ℕ
finding file None = finding_line (codes "missing ") file.name
finding file (Some octets) = if bytes_eq octets file.image.octets then [] else finding_line (codes "differs ") file.name

-- the lines of files, in their order, by the replies to their names
abbrev pub findings : List File → List Reply → List ℕ
findings (file ∷ files) (reply ∷ replies) = finding file reply.octets ++ findings files replies
findings _ _ = []

-- The names of all these files were requested of a tree, in their order, and no other, and it replied this.
pub record AreRequestedNames (files : List File) (old new : Option (List Reply)) (replies : List Reply) : Type 0 where
  pub names : map (λ reply. reply.name) replies ≡ map (λ file. file.name) files
  pub gained : Gains old new replies

-- these are the lines of just the files that the tree doesn't have as they are
pub record AreFindings (files : List File) (old new : Option (List Reply)) (lines : List ℕ) : Type 0 where
  pub replies : List Reply
  pub requested : AreRequestedNames files old new replies
  pub are_lines : lines ≡ findings files replies

-- the tree has the files: it replied the very bytes of each
abbrev pub HasFiles : List File → Option (List Reply) → Option (List Reply) → Type 0
HasFiles files old new = AreRequestedNames files old new (map reply_of files)

-- the line of a name of a tree: `extra NAME` where no file has it, and else nothing
abbrev pub IsExtraLine : List File → List ℕ → List ℕ → Type 0
IsExtraLine files name lines =
    (Any (λ file. file.name ≡ name) files × (lines ≡ []))
    ⊎ (HasNone files name × (lines ≡ finding_line (codes "extra ") name))

-- these are the lines of just the names that no file has, in their order
pub record AreExtras (files : List File) (names : List (List ℕ)) (lines : List ℕ) : Type 0 where
  pub of_names : List (List ℕ)
  pub each : AllZip (IsExtraLine files) names of_names
  pub are_lines : lines ≡ flat_map (λ lines. lines) of_names
