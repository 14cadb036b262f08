-- Laws of words: each is the contract of a function of the module `laws`.
use Rattle.std.specs.Prelude.{◌≡◌, ◌↔◌, ◌⊎◌, ◌≤◌, ◌+◌, ◌*◌, ◌%◌, ◌^◌, ℕ}
use Rattle.zic_lines.specs.Time.{nearest_second}

-- s is the whole second nearest to n billionths; of two equally near, the even one
pub record IsNearestSecond (n s : ℕ) : Type 0 where
  pub below : 2 * n ≤ 10 ^ 9 * (2 * s + 1)
  pub above : 10 ^ 9 * (2 * s) ≤ 2 * n + 10 ^ 9
  pub even : (2 * n ≡ 10 ^ 9 * (2 * s + 1)) ⊎ (10 ^ 9 * (2 * s) ≡ 2 * n + 10 ^ 9) → s % 2 ≡ 0

-- each time has just one nearest second, and times are rounded to it
abbrev pub RoundToNearest : Type 0
RoundToNearest = (n s : ℕ) → IsNearestSecond n s ↔ (s ≡ nearest_second n)
