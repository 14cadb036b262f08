-- Laws about the files of a tree.
use Rattle.std.specs.Prelude.{List, ◌++◌, Contains}
use Rattle.zic_files.specs.File.{File}
use Rattle.zic_files.specs.Tree.{AreRequestedOnce, AreFilesOfReplies, IsSettled, Reply}

-- The files of replies stay as they are, whatever a tree replies to other names: they are among the files of more replies, and of these
-- all that have a settled name are among the first.
pub record FilesStay : Type 0 where
  pub still : (replies more : List Reply) (files others : List File) → AreFilesOfReplies replies files → AreFilesOfReplies (replies ++ more) others
      → (file : File) → Contains files file → Contains others file
  pub settled : (replies more : List Reply) (files others : List File) → AreFilesOfReplies replies files → AreFilesOfReplies (replies ++ more) others
      → (file : File) → Contains others file → IsSettled replies file.name → Contains files file

-- No replies of a tree are without files. So what holds by all files of replies is never said of none.
abbrev pub RepliesHaveFiles : Type 0
RepliesHaveFiles = (replies : List Reply) → AreRequestedOnce replies → ((files : List File) → AreFilesOfReplies replies files → ⊥) → ⊥
