-- Why the commands that compile texts give up.
use Rattle.std.specs.Prelude.{◌≡◌, ◌⊎◌, ℕ, List, [], ◌∷◌, ◌++◌, length, map, Option}
use Rattle.zic_compile.specs.Build.{AreFilesOfTexts, IsStopOfBuild}
use Rattle.zic_files.specs.File.{File}
use Rattle.zic_base.specs.declared.stops.RunStop.{RunStop}
use Rattle.zic_counted.specs.Counts.{Counts}
use Rattle.zic_io.specs.declared.failure.Failure.{Failure}
use Rattle.zic_io.specs.declared.failure.Failure.TheVariants as failures
use Rattle.zic_io.specs.Failing.{IsCannotWrite, IsFailureOfOutput, run_failure}
use Rattle.zic_base.specs.Growth.{Gains}
use Rattle.zic_io.specs.Tree.{Placed}
use Rattle.zic_bulk.specs.Tree.{in_folder}
use Rattle.zic_bulk.specs.Text.{IsListing}

-- why texts have no files: the end of the build of these texts, and of no others
pub record IsFailureOfTexts (texts : List (List ℕ)) (failure : Failure) : Type 0 where
  pub stop : RunStop
  pub is_stop : IsStopOfBuild texts stop
  pub is : failure ≡ run_failure stop (length texts)

-- why there is no listing of texts: they have no files, or memory ran out
abbrev pub IsFailureOfListing : List (List ℕ) → Failure → Type 0
IsFailureOfListing texts failure = (failure ≡ failures.Memory) ⊎ IsFailureOfTexts texts failure

-- why `check` gives up: there are no lines, and nothing is written, or they can't be written
abbrev pub IsFailureOfCheck : {W : Type 0} → (W → Option (List ℕ)) → List (List ℕ)
    → Counts W → Counts W → Failure → Type 0
IsFailureOfCheck contents texts old new failure =
    (IsFailureOfListing texts failure × (new ≡ old))
    ⊎ IsFailureOfOutput contents (IsListing texts) old new failure

-- Why the file of a name isn't placed in a folder: memory ran out, or it can't be written, since
-- the folder has no name or the tree refused the path.
abbrev pub IsUnplacedAs : (List ℕ → Type 0) → List ℕ → List ℕ → Failure → Type 0
IsUnplacedAs IsRefused folder name failure =
    let path = folder ++ 47 ∷ name in
    (failure ≡ failures.Memory) ⊎ (IsCannotWrite path failure × ((folder ≡ []) ⊎ IsRefused path))

-- the same of the file of a zone
abbrev pub IsUnplaced : (List ℕ → Type 0) → List ℕ → File → Failure → Type 0
IsUnplaced IsRefused folder file failure = IsUnplacedAs IsRefused folder file.name failure

-- why not all files are placed in a folder: all before one are, and that one isn't
pub record IsFailureOfFolder (IsRefused : List ℕ → Type 0) (folder : List ℕ) (files : List File)
    (old new : Option (List Placed)) (failure : Failure) : Type 0 where
  pub before : List File
  pub file : File
  pub after : List File
  pub parts : files ≡ before ++ file ∷ after
  pub placed : Gains old new (map (in_folder folder) before)
  pub unplaced : IsUnplaced IsRefused folder file failure

-- the texts have files, and not all of them are placed in the folder
pub record IsFailureOfFiles (IsRefused : List ℕ → Type 0) (texts : List (List ℕ))
    (folder : List ℕ) (old new : Option (List Placed)) (failure : Failure) : Type 0 where
  pub files : List File
  pub are_files : AreFilesOfTexts texts files
  pub in_folder : IsFailureOfFolder IsRefused folder files old new failure
