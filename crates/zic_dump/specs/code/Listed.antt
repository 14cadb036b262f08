-- The instants whose changes can be listed.
use Rattle.std.specs.Prelude.{ℤ, pos, neg_ℤ, ◌*◌, ◌≤ℤ◌}

-- with any UT offset of a file the local time of the instant is in the years 1 to 9999
pub record IsListed (instant : ℤ) : Type 0 where
  pub low : neg_ℤ (pos (719_160 * 86_400)) ≤ℤ instant
  pub high : instant ≤ℤ pos (2_932_894 * 86_400)
