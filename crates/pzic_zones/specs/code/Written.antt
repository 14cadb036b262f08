-- Columns of which the first cells are written.
use Rattle.std.specs.Prelude.{◌≡◌, ℕ, ℤ, List, length, take}
use Rattle.std.specs.List.{AllZip}

-- the first cells, so many, are those of the keys of their places
pub record AreCellsWritten {K C : Type 0} (P : K → C → Type 0) (keys : List K) (cells : List C) (count : ℕ) : Type 0 where
  pub long : length cells ≡ length keys
  pub written : AllZip P (take count keys) (take count cells)

-- the first cells of both columns are
pub record IsWritten {K : Type 0} (P : K → ℤ → Type 0) (Q : K → ℕ → Type 0) (keys : List K) (numbers : List ℤ) (marks : List ℕ) (count : ℕ) : Type 0 where
  pub numbers_long : length numbers ≡ length keys
  pub marks_long : length marks ≡ length keys
  pub numbers_written : AllZip P (take count keys) (take count numbers)
  pub marks_written : AllZip Q (take count keys) (take count marks)
