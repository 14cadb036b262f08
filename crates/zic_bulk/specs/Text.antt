-- The text that `check` prints.
use Rattle.std.specs.Prelude.{◌≡◌, ℕ, List, [], ◌∷◌, ◌++◌, length}
use Rattle.std.specs.Fmt.{decimal}
use Rattle.std.specs.List.{flat_map}
use Rattle.zic_compile.specs.Build.{AreFilesOfTexts}
use Rattle.zic_files.specs.File.{File}

-- a file's name, its number of bytes and its footer, between spaces, and a newline
abbrev pub check_line : File → List ℕ
check_line file =
    file.name ++ 32 ∷ (decimal
    (length file.image.octets) ++ 32 ∷ (file.image.content.text ++ 10 ∷ []))

-- the lines for the files of texts
pub record IsListing (texts : List (List ℕ)) (lines : List ℕ) : Type 0 where
  pub files : List File
  pub are_files : AreFilesOfTexts texts files
  pub are_lines : lines ≡ flat_map check_line files
