-- Files and links that are placed into a tree.
use Rattle.std.specs.Prelude.{ℕ, List}
use Rattle.zic_io.specs.declared.link_kind.LinkKind.{LinkKind}

-- a file in a tree: its path and its bytes
pub record Placed : Type 0 where
  pub path : List ℕ
  pub bytes : List ℕ

-- a link in a tree: its kind, its path, and its target, which is the path of a file for a hard link,
-- and the text of a symbolic link
pub record Linked : Type 0 where
  pub kind : LinkKind
  pub path : List ℕ
  pub target : List ℕ
