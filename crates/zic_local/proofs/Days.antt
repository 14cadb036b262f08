-- The first day of a search.
use Rattle.std.proofs.Common.{◌≡◌, ℕ, ◌<◌, ◌*◌, ℤ, pos, negsuc, ◌+ℤ◌, ◌-ℤ◌, ◌*ℤ◌, ◌<ℤ◌, ◌≤ℤ◌, arith}
use Rattle.std.specs.Int.{int_div_euclid, int_max}
use Rattle.std.proofs.lemmas.Int.{ints, clamps}
use Rattle.zic_base.specs.declared.constants.TheConstants.{FARTHEST_FILE_OFFSET}
use Rattle.zic_posix.specs.declared.span.TheConstants.{MIN_INSTANT, MAX_INSTANT}
use Rattle.zic_local.specs.LocalTime.{IsInRange}
use Rattle.zic_local.specs.Due.{local_time_on}
use Rattle.zic_local.specs.code.Search.{IsOfWalk}

-- the day of a second: it begins at the second or before, and ends after it
record IsDayOf (second day : ℤ) : Type 0 where
  pub begins : (pos 86_400 *ℤ day) ≤ℤ second
  pub ends : second <ℤ ((pos 86_400 *ℤ day) +ℤ pos 86_400)

day_of : (second : ℤ) → IsDayOf second (int_div_euclid second (pos 86_400))
day_of (pos a) = record { begins = omega (arith, ints); ends = omega (arith, ints) }
day_of (negsuc a) = record { begins = omega (arith, ints); ends = omega (arith, ints) }

-- the least local time that may matter: 25:59:59 before an instant, or the first in range
abbrev pub least_local : ℤ → ℤ
least_local after = int_max after (MIN_INSTANT +ℤ pos (2 * FARTHEST_FILE_OFFSET)) -ℤ pos FARTHEST_FILE_OFFSET

module _ (after day : ℤ) (seconds : ℕ) (fits : after ≤ℤ MAX_INSTANT) (time : seconds < 86_400)
    (is : day ≡ int_div_euclid ((least_local after -ℤ pos seconds) +ℤ pos 86_399) (pos 86_400)) where
  of : IsDayOf ((least_local after -ℤ pos seconds) +ℤ pos 86_399) day
  of = rw is (day_of ((least_local after -ℤ pos seconds) +ℤ pos 86_399))

  pub first_walk : IsOfWalk (local_time_on day seconds)
  first_walk =
      let begins = of.begins in
      let ends = of.ends in
      record { low = omega (arith, ints, clamps, begins, ends, time); high = omega (arith, ints, clamps, begins, ends, time, fits) }

  pub first_none : (earlier : ℤ) → earlier <ℤ day → IsInRange (local_time_on earlier seconds)
      → (local_time_on earlier seconds +ℤ pos FARTHEST_FILE_OFFSET) ≤ℤ after
  first_none earlier before range =
      let begins = of.begins in
      let low = range.low in
      omega (arith, ints, clamps, begins, before, low, time)
