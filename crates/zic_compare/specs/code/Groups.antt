-- The files before one that stand together with it.
use Rattle.std.specs.Prelude.{◌≡◌, ℕ, ◌<◌, true, false, List, Some, slice_get}
use Rattle.zic_compare.specs.Groups.{stand_together}
use Rattle.zic_files.specs.File.{File}

-- none of the first n files does
abbrev pub HasNoneBefore : List File → List File → File → ℕ → Type 0
HasNoneBefore own others one n = (k : ℕ) (other : File) → k < n → slice_get own k ≡ Some other → stand_together others one other ≡ false

-- one of these does
pub record HasOneBefore (own others : List File) (one : File) (n : ℕ) : Type 0 where
  pub number : ℕ
  pub other : File
  pub before : number < n
  pub at : slice_get own number ≡ Some other
  pub together : stand_together others one other ≡ true
