-- Weekdays: Sunday is 0 and Saturday 6.
use Rattle.std.specs.Prelude.{◌≡◌, ℕ, ◌+◌, ◌-◌, ◌%◌, ◌≤◌, ℤ, pos, ◌+ℤ◌, ◌-ℤ◌, ◌≤ℤ◌, unsigned_abs}
use Rattle.std.specs.Int.{int_rem_euclid}

-- a number of a weekday (Sunday is 0, as in POSIX TZ)
abbrev pub IsWeekday : ℕ → Type 0
IsWeekday w = w ≤ 6

-- the weekday of a day number: they come round every seven days, and day 0 was a Thursday (calendar)
unfoldable pub weekday_of : ℤ → ℕ
weekday_of n = unsigned_abs (int_rem_euclid (n +ℤ pos 4) (pos 7))

-- the greatest number with a property (arithmetic)
pub record IsGreatest (P : ℤ → Type 0) (x : ℤ) : Type 0 where
  pub holds : P x
  pub bound : (z : ℤ) → P z → z ≤ℤ x

-- the least number with a property (arithmetic)
pub record IsLeast (P : ℤ → Type 0) (x : ℤ) : Type 0 where
  pub holds : P x
  pub bound : (z : ℤ) → P z → x ≤ℤ z

-- the first such weekday on or after a day (zic(8), `>=`)
abbrev pub IsFirstOnOrAfter : ℕ → ℤ → ℤ → Type 0
IsFirstOnOrAfter w day = IsLeast (λ z. (day ≤ℤ z) × (weekday_of z ≡ w))

-- the last such weekday on or before a day (zic(8), `<=`)
abbrev pub IsLastOnOrBefore : ℕ → ℤ → ℤ → Type 0
IsLastOnOrBefore w day = IsGreatest (λ z. (z ≤ℤ day) × (weekday_of z ≡ w))

-- the only such day of `IsFirstOnOrAfter`, computed (arithmetic)
unfoldable pub first_on_or_after : ℕ → ℤ → ℤ
first_on_or_after w day = day +ℤ pos ((w + 7 - weekday_of day) % 7)

-- the only such day of `IsLastOnOrBefore`, computed (arithmetic)
unfoldable pub last_on_or_before : ℕ → ℤ → ℤ
last_on_or_before w day = day -ℤ pos ((weekday_of day + 7 - w) % 7)
