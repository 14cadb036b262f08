-- Files that are being taken.
use Rattle.std.specs.Prelude.{ℕ, List, [], ◌++◌}
use Rattle.zic_files.specs.File.{File}
use Rattle.pzic_files.specs.FilesOf.{AreTaken, Given}

-- whatever is taken or left out of the rest after these files makes all taken or left out
abbrev pub GoOn : List Given → List Given → List ℕ → List File → Type 0
GoOn all rest statuses files = (more : List ℕ) (after : List File) → AreTaken files rest more after → AreTaken [] all (statuses ++ more) after
