-- Weekdays: how they come round, and the first and last such day.
use Rattle.std.proofs.Common.{◌≡◌, ℕ, ◌+◌, ◌-◌, ◌*◌, ◌%◌, ◌<◌, refl, arith, ℤ, pos, ◌+ℤ◌, ◌-ℤ◌, ◌≤ℤ◌, unsigned_abs}
use Rattle.std.proofs.lemmas.Int.{by_lt_z}
use Rattle.std.specs.Int.{int_rem_euclid}
use Rattle.jiff_core.specs.Calendar.{weekday_number}
use Rattle.jiff_core.proofs.SignedLemmas.{signed_arith, one_part}
use Rattle.jiff_core.proofs.CalendarLemmas.{weekday_number-parts}
use borrow.Author.Differences.{up, down}
use Rattle.zic_calendar.specs.Weekday.{IsWeekday, weekday_of, IsFirstOnOrAfter, IsLastOnOrBefore, first_on_or_after, last_on_or_before}

-- the weekday of a day number, in terms that `omega` reads
weekday_of-parts : (n : ℤ) → weekday_of n ≡ (up n + 6 * down n + 4) % 7
unfolding weekday_of
weekday_of-parts n = omega (arith, signed_arith, one_part n)

pub IsWeekday-weekday_of : (n : ℤ) → IsWeekday (weekday_of n)
IsWeekday-weekday_of n = omega (arith, weekday_of-parts n)

-- k days later the weekday has moved on by k
pub weekday_of-add : (a b : ℤ) (k : ℕ) → b ≡ a +ℤ pos k → weekday_of b ≡ (weekday_of a + k) % 7
weekday_of-add a b k e = omega (arith, signed_arith, weekday_of-parts a, weekday_of-parts b)

-- a week later it is the same weekday
pub weekday_of-week : (n : ℤ) → weekday_of (n +ℤ pos 7) ≡ weekday_of n
weekday_of-week n = omega (arith, IsWeekday-weekday_of n, weekday_of-add n (n +ℤ pos 7) 7 refl)

-- and so it is 400 years later
pub weekday_of-period : (n later : ℤ) → later ≡ n +ℤ pos 146097 → weekday_of later ≡ weekday_of n
weekday_of-period n later e = omega (arith, IsWeekday-weekday_of n, weekday_of-add n later 146097 e)

-- the kit's weekdays begin with Monday
pub weekday_of-kit : (n : ℤ) → weekday_of n ≡ (weekday_number n + 1) % 7
weekday_of-kit n = omega (arith, weekday_of-parts n, weekday_number-parts n)

-- the computed day is the first such weekday
pub first_is : (w : ℕ) (day : ℤ) → IsWeekday w → IsFirstOnOrAfter w day (first_on_or_after w day)
unfolding first_on_or_after
first_is w day h =
    let k = (w + 7 - weekday_of day) % 7 in
    let today = IsWeekday-weekday_of day in
    let there = weekday_of-add day (day +ℤ pos k) k refl in
    record {
      holds = (omega (arith, signed_arith), omega arith);
      bound = λ z p. by_lt_z z (day +ℤ pos k)
          (λ lt. let j = up z + down day - (down z + up day) in
          let after : z ≡ day +ℤ pos j = omega (arith, signed_arith, p.0) in
          let sooner : j < k = omega (arith, signed_arith) in
          absurd (omega (arith, weekday_of-add day z j after, p.1)))
          (λ ge. ge);
    }

-- and the only one
pub first_only : (w : ℕ) (day x : ℤ) → IsWeekday w → IsFirstOnOrAfter w day x → x ≡ first_on_or_after w day
first_only w day x h first =
    let is = first_is w day h in
    omega (arith, signed_arith, first.bound (first_on_or_after w day) is.holds, is.bound x first.holds)

pub first_bounds : (w : ℕ) (day : ℤ) → (day ≤ℤ first_on_or_after w day) × (first_on_or_after w day ≤ℤ (day +ℤ pos 6))
unfolding first_on_or_after
first_bounds w day = omega (arith, signed_arith)

-- the same for the last
pub last_is : (w : ℕ) (day : ℤ) → IsWeekday w → IsLastOnOrBefore w day (last_on_or_before w day)
unfolding last_on_or_before
last_is w day h =
    let k = (weekday_of day + 7 - w) % 7 in
    let today = IsWeekday-weekday_of day in
    let found = IsWeekday-weekday_of (day -ℤ pos k) in
    let there = weekday_of-add (day -ℤ pos k) day k (omega (arith, signed_arith)) in
    record {
      holds = (omega (arith, signed_arith), omega arith);
      bound = λ z p. by_lt_z (day -ℤ pos k) z
          (λ lt. let j = up day + down z - (down day + up z) in
          let before : day ≡ z +ℤ pos j = omega (arith, signed_arith, p.0) in
          let later : j < k = omega (arith, signed_arith) in
          absurd (omega (arith, weekday_of-add z day j before, p.1)))
          (λ ge. ge);
    }

pub last_only : (w : ℕ) (day x : ℤ) → IsWeekday w → IsLastOnOrBefore w day x → x ≡ last_on_or_before w day
last_only w day x h last =
    let is = last_is w day h in
    omega (arith, signed_arith, last.bound (last_on_or_before w day) is.holds, is.bound x last.holds)

pub last_bounds : (w : ℕ) (day : ℤ) → ((day -ℤ pos 6) ≤ℤ last_on_or_before w day) × (last_on_or_before w day ≤ℤ day)
unfolding last_on_or_before
last_bounds w day = omega (arith, signed_arith)

-- the last X on or before a day is the first X on or after the day six days earlier
pub last-first : (w : ℕ) (day earlier : ℤ) → IsWeekday w → earlier ≡ day -ℤ pos 6 → last_on_or_before w day ≡ first_on_or_after w earlier
unfolding first_on_or_after last_on_or_before
last-first w day earlier h e =
    let today = IsWeekday-weekday_of day in
    let there = IsWeekday-weekday_of earlier in
    let week = weekday_of-add earlier day 6 (omega (arith, signed_arith)) in
    omega (arith, signed_arith)

-- 400 years later
pub first-period : (w : ℕ) (day later : ℤ) → later ≡ day +ℤ pos 146097 → first_on_or_after w later ≡ first_on_or_after w day +ℤ pos 146097
unfolding first_on_or_after
first-period w day later e = rw (weekday_of-period day later e) (omega (arith, signed_arith))

pub last-period : (w : ℕ) (day later : ℤ) → later ≡ day +ℤ pos 146097 → last_on_or_before w later ≡ last_on_or_before w day +ℤ pos 146097
unfolding last_on_or_before
last-period w day later e = rw (weekday_of-period day later e) (omega (arith, signed_arith))

-- days and the weekday may be moved together
pub first-moved : (w : ℕ) (day moved s : ℤ) → IsWeekday w → moved ≡ day +ℤ s → first_on_or_after w moved ≡ first_on_or_after (unsigned_abs (int_rem_euclid (pos w -ℤ s) (pos 7))) day +ℤ s
unfolding first_on_or_after
first-moved w day moved s h e =
    let today = IsWeekday-weekday_of day in
    omega (arith, signed_arith, one_part s, weekday_of-parts day, weekday_of-parts moved)
