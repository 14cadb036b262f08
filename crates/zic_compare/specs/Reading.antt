-- The files of a tree at given names: own choice.
use Rattle.std.specs.Prelude.{ℕ, List, Option, All, Contains}
use Rattle.zic_files.specs.Tree.{Gains, IsLearntFrom, IsSettled, Learnt, Reply}

-- Those of these names that zones may have were requested of a tree, and no others. What was learnt are its replies' files.
pub record IsReadAt (names : List (List ℕ)) (old new : Option (List Reply)) (learnt : Learnt) : Type 0 where
  pub replies : List Reply
  pub gained : Gains old new replies
  pub from : IsLearntFrom replies learnt
  pub settled : All (IsSettled replies) names
  pub among : All (λ reply. Contains names reply.name) replies
