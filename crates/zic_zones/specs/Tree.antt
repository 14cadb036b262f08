-- The zones of a tree of which names were requested: own choice.
use Rattle.std.specs.Prelude.{◌≡◌, ℕ, List, ◌++◌, Option, None, Contains}
use Rattle.zic_files.specs.File.{File}
use Rattle.zic_files.specs.Tree.{AreRequestedOnce, AreOfName, Gains, IsKnown, IsLearntFrom, Learnt, Reply}
use Rattle.zic_zones.specs.Zones.{Agree}
use Rattle.zic_zones.specs.declared.zones.Releases.{Releases}

-- a tree, and the names and files that were learnt of it
pub record TreeOf (T : Type 0) : Type 0 where
  pub tree : T
  pub learnt : Learnt

-- The files of a release that is compared with none agree with those that were learnt.
pub record MayHave (learnt : Learnt) (releases : Releases) : Type 0 where
  pub agree : Agree (IsKnown learnt) learnt.files releases.zones
  pub alone : releases.old ≡ None

-- More names of zones were requested of the tree, each once, and its files were learnt. The names and files from before stay, and no file
-- of a name that was known was added to them.
pub record Grows {T : Type 0} (replied : T → Option (List Reply)) (old new : TreeOf T) : Type 0 where
  pub replies : (replies : List Reply) → IsLearntFrom replies old.learnt
      → (more : List Reply) × Gains (replied old.tree) (replied new.tree) more × IsLearntFrom (replies ++ more) new.learnt
  pub requested : (name : List ℕ) → Contains old.learnt.requested name → Contains new.learnt.requested name
  pub files : (file : File) → Contains old.learnt.files file → Contains new.learnt.files file
  pub only : (file : File) → Contains new.learnt.files file → IsKnown old.learnt file.name → Contains old.learnt.files file

-- More names of zones were requested of the tree, each once. What was learnt is open.
abbrev pub Breaks : {T : Type 0} → (T → Option (List Reply)) → TreeOf T → TreeOf T → Type 0
Breaks replied old new =
    (replies : List Reply) → IsLearntFrom replies old.learnt → (more : List Reply) × Gains (replied old.tree) (replied new.tree) more × AreRequestedOnce (replies ++ more)

-- No name but this one was requested of the tree: at most once, also before, and only if a zone may have that name.
abbrev pub Requests : {T : Type 0} → (T → Option (List Reply)) → TreeOf T → List ℕ → TreeOf T → Type 0
Requests replied old name new =
    (replies : List Reply) → IsLearntFrom replies old.learnt
    → (more : List Reply) × Gains (replied old.tree) (replied new.tree) more × AreRequestedOnce (replies ++ more) × AreOfName name more
