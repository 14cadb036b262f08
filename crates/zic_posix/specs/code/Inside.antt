-- Edges inside their years; no public contract cites it.
use Rattle.std.specs.Prelude.{◌≡◌, ℤ, pos, Bool, true, ◌&&◌, int_le, int_lt, List, length}
use Rattle.std.specs.List.{list_all}

-- from the start of a year to less than 365 days later
abbrev pub is_inside : ℤ → Bool
is_inside second = int_le (pos 0) second && int_lt second (pos 31_536_000)

-- an edge in each kind of year is inside the year
pub record AreInside (seconds : List ℤ) : Type 0 where
  pub count : length seconds ≡ 14
  pub inside : list_all is_inside seconds ≡ true
