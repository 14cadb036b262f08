-- The files of a source in a tree.
use Rattle.std.specs.Prelude.{◌≢◌, ℕ, List, [], ◌∷◌, ◌++◌, map, Option}
use Rattle.zic_compile.specs.Build.{AreFilesOfTexts}
use Rattle.zic_files.specs.File.{File}
use Rattle.zic_base.specs.Growth.{Gains}
use Rattle.zic_io.specs.Tree.{Placed}

-- a file of a source in a folder: its path is that of the folder, a slash and its name
abbrev pub in_folder : List ℕ → File → Placed
in_folder folder file = record { path = folder ++ 47 ∷ file.name; bytes = file.image.octets }

-- the files of the texts were placed in the folder, in the order of the texts and their lines;
-- where there is a file, the folder has a name
pub record AreBuilt (texts : List (List ℕ)) (folder : List ℕ)
    (old new : Option (List Placed)) : Type 0 where
  pub files : List File
  pub are_files : AreFilesOfTexts texts files
  pub named : files ≢ [] → folder ≢ []
  pub placed : Gains old new (map (in_folder folder) files)
