-- The lines of some files.
use Rattle.std.specs.Prelude.{◌≡◌, ℕ, List}
use Rattle.std.specs.List.{AllZip, flat_map}
use Rattle.zic_files.specs.File.{File}

-- those of each file, in the order of the files, one after another
pub record AreLinesOfAll (AreLines : File → List ℕ → Type 0) (files : List File) (lines : List ℕ) : Type 0 where
  pub of_each : List (List ℕ)
  pub each : AllZip AreLines files of_each
  pub joined : lines ≡ flat_map (λ (text : List ℕ). text) of_each
