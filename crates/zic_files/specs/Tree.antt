-- A tree of files from outside: what it replied, and the files that rows are made of: own choice.
use Rattle.std.specs.Prelude.{◌≡◌, ◌≢◌, ◌⊎◌, ℕ, true, List, [], ◌∷◌, ◌++◌, Option, Some, None, map, All, AllPairs, Any, Contains, IsSomeAnd}
pub use Rattle.zic_base.specs.Growth.{Gains}
use Rattle.zic_lines.specs.Name.{is_name}
use Rattle.zic_files.specs.File.{File, FileImage}
use Rattle.zic_files.specs.Fit.{IsFit, AreFit}
use Rattle.zic_files.specs.Sound.{AreSoundFiles}

-- a name that a tree replied to, and the bytes of the file of that name, or none
pub record Reply : Type 0 where
  pub name : List ℕ
  pub octets : Option (List ℕ)

-- A tree replied to names of zones only, and to none of them twice.
pub record AreRequestedOnce (replies : List Reply) : Type 0 where
  pub named : All (λ reply. is_name reply.name ≡ true) replies
  pub once : AllPairs (λ reply other. reply.name ≢ other.name) replies

-- the tree replied to this name, unless no zone may have it
abbrev pub IsSettled : List Reply → List ℕ → Type 0
IsSettled replies name = is_name name ≡ true → Any (λ reply. reply.name ≡ name) replies

-- these replies are all to this name
abbrev pub AreOfName : List ℕ → List Reply → Type 0
AreOfName name replies = All (λ reply. reply.name ≡ name) replies

-- the reply that gives the bytes of a file
abbrev pub reply_of : File → Reply
reply_of file = record { name = file.name; octets = Some file.image.octets }

-- The files of replies: each reply whose bytes rows can be made of gives one, of its name and with just these bytes, and there are no
-- others.
pub record AreFilesOfReplies (replies : List Reply) (files : List File) : Type 0 where
  pub requested : AreRequestedOnce replies
  pub sound : AreSoundFiles files
  pub fit : All (λ file. IsFit file.image.content) files
  pub given : All (λ file. Contains replies (reply_of file)) files
  pub all : All (λ reply. IsSomeAnd reply.octets AreFit → Any (λ file. file.name ≡ reply.name) files) replies

-- the names that a tree replied to, in order, and the files of its replies
pub record Learnt : Type 0 where
  pub requested : List (List ℕ)
  pub files : List File

-- the names and the files of these replies
pub record IsLearntFrom (replies : List Reply) (learnt : Learnt) : Type 0 where
  pub requested : learnt.requested ≡ map (λ reply. reply.name) replies
  pub files : AreFilesOfReplies replies learnt.files

-- the name was requested, unless no zone may have it
abbrev pub IsKnown : Learnt → List ℕ → Type 0
IsKnown learnt name = is_name name ≡ true → Contains learnt.requested name

-- the file of a name, if there is an image
abbrev pub files_named : List ℕ → Option FileImage → List File
files_named name None = []
files_named name (Some image) = record { name = name; image = image } ∷ []

-- A name of a zone that was not requested before comes last, and so does its file, if there is one.
pub record Adds (name : List ℕ) (old new : Learnt) : Type 0 where
  pub named : is_name name ≡ true
  pub first : Contains old.requested name → ⊥
  pub image : Option FileImage
  pub requested : new.requested ≡ old.requested ++ name ∷ []
  pub files : new.files ≡ old.files ++ files_named name image

-- What was learnt stays as it is where the name is known, and else the name is added.
abbrev pub GrowsBy : List ℕ → Learnt → Learnt → Type 0
GrowsBy name old new = (IsKnown old name × (new ≡ old)) ⊎ Adds name old new
