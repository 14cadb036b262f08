-- How years follow one another, for every whole year.
use Rattle.std.proofs.Common.{◌≡◌, ℕ, zero, suc, ◌+◌, ◌-◌, refl, arith, ℤ, pos, negsuc, ◌+ℤ◌, ◌-ℤ◌, ◌<ℤ◌, ◌≤ℤ◌}
use Rattle.std.proofs.lemmas.Bool.Decides.{nat_tests}
use Rattle.jiff_core.proofs.SignedLemmas.{signed_arith}
use borrow.Author.Differences.{up, down}
use Rattle.zic_calendar.specs.Calendar.{is_leap_year, days_in_year, days_of_years, days_from_1970, year_start}

-- what holds at 0 and passes from each number to its neighbours holds of every number
pub int_induction : (P : ℤ → Type 0) → P (pos 0) → ((z next : ℤ) → next ≡ z +ℤ pos 1 → P z → P next) → ((z next : ℤ) → next ≡ z +ℤ pos 1 → P next → P z) → (z : ℤ) → P z
int_induction P base rise fall (pos zero) = base
int_induction P base rise fall (pos (suc n)) =
    rise (pos n) (pos (suc n)) (omega (arith, signed_arith)) (int_induction P base rise fall (pos n))
int_induction P base rise fall (negsuc zero) = fall (negsuc zero) (pos 0) (omega (arith, signed_arith)) base
int_induction P base rise fall (negsuc (suc n)) =
    fall (negsuc (suc n)) (negsuc n) (omega (arith, signed_arith)) (int_induction P base rise fall (negsuc n))

-- the leap years come round every 400 years
pub is_leap_year-period : (y later : ℤ) → later ≡ y +ℤ pos 400 → is_leap_year later ≡ is_leap_year y
is_leap_year-period (pos a) (pos b) e = let h : b ≡ a + 400 = omega (arith, signed_arith) in grind (arith, nat_tests)
is_leap_year-period (pos a) (negsuc b) e = absurd (omega (arith, signed_arith))
is_leap_year-period (negsuc a) (pos b) e = let h : b + suc a ≡ 400 = omega (arith, signed_arith) in grind (arith, nat_tests)
is_leap_year-period (negsuc a) (negsuc b) e = let h : a ≡ b + 400 = omega (arith, signed_arith) in grind (arith, nat_tests)

pub days_in_year-period : (y later : ℤ) → later ≡ y +ℤ pos 400 → days_in_year later ≡ days_in_year y
days_in_year-period y later e = rw (is_leap_year-period y later e)

-- the days of years by their first year, where the definition goes by the last
days_of_years-front : (y next : ℤ) (n : ℕ) → next ≡ y +ℤ pos 1 → days_of_years y (suc n) ≡ days_in_year y + days_of_years next n
unfolding days_of_years
days_of_years-front y next zero e = let same : y +ℤ pos 0 ≡ y = omega (arith, signed_arith) in rw same (omega arith)
days_of_years-front y next (suc n) e =
    let same : y +ℤ pos (suc n) ≡ next +ℤ pos n = omega (arith, signed_arith) in
    rw same (omega (arith, days_of_years-front y next n e))

days_of_years-suc : (y : ℤ) (n : ℕ) → days_of_years y (suc n) ≡ days_of_years y n + days_in_year (y +ℤ pos n)
unfolding days_of_years
days_of_years-suc y n = refl

days_of_years-zero : (y : ℤ) → days_of_years y 0 ≡ 0
unfolding days_of_years
days_of_years-zero y = refl

days_from_1970-next : (z next : ℤ) → next ≡ z +ℤ pos 1 → days_from_1970 next ≡ days_from_1970 z +ℤ pos (days_in_year (pos 1970 +ℤ z))
unfolding days_from_1970
days_from_1970-next (pos n) next e =
    let same : next ≡ pos (suc n) = omega (arith, signed_arith) in
    rw same (omega (arith, signed_arith, days_of_years-suc (pos 1970) n))
days_from_1970-next (negsuc zero) next e =
    let same : next ≡ pos 0 = omega (arith, signed_arith) in
    rw same (omega (arith, signed_arith, days_of_years-zero (pos 1970), days_of_years-suc (pos 1969) 0, days_of_years-zero (pos 1969)))
days_from_1970-next (negsuc (suc n)) next e =
    let same : next ≡ negsuc n = omega (arith, signed_arith) in
    let front = days_of_years-front (pos 1970 +ℤ negsuc (suc n)) (pos 1970 +ℤ negsuc n) (suc n) (omega (arith, signed_arith)) in
    rw same (omega (arith, signed_arith, front))

-- a year begins where the one before ends
pub year_start-next : (y next : ℤ) → next ≡ y +ℤ pos 1 → year_start next ≡ year_start y +ℤ pos (days_in_year y)
year_start-next y next e =
    let same : pos 1970 +ℤ (y -ℤ pos 1970) ≡ y = omega (arith, signed_arith) in
    rw same at (days_from_1970-next (y -ℤ pos 1970) (next -ℤ pos 1970) (omega (arith, signed_arith)))

pub year_start-1970 : year_start (pos 1970) ≡ pos 0
unfolding days_from_1970 days_of_years
year_start-1970 = refl

-- 400 years from 1970 on, counted
year_start-2370 : year_start (pos 2370) ≡ pos 146097
unfolding days_from_1970 days_of_years
year_start-2370 = refl

-- 400 years have 146,097 days
pub year_start-period : (y later : ℤ) → later ≡ y +ℤ pos 400 → year_start later ≡ year_start y +ℤ pos 146097
year_start-period y later e =
    let P : ℤ → Type 0 = λ z. year_start (z +ℤ pos 2370) ≡ year_start (z +ℤ pos 1970) +ℤ pos 146097 in
    let step : (z next : ℤ) → next ≡ z +ℤ pos 1 → (year_start (next +ℤ pos 2370) ≡ year_start (z +ℤ pos 2370) +ℤ pos (days_in_year (z +ℤ pos 1970))) × (year_start (next +ℤ pos 1970) ≡ year_start (z +ℤ pos 1970) +ℤ pos (days_in_year (z +ℤ pos 1970))) =
    λ z next h. (rw (days_in_year-period (z +ℤ pos 1970) (z +ℤ pos 2370) (omega (arith, signed_arith))) at (year_start-next (z +ℤ pos 2370) (next +ℤ pos 2370) (omega (arith, signed_arith))), year_start-next (z +ℤ pos 1970) (next +ℤ pos 1970) (omega (arith, signed_arith))) in
    let base : P (pos 0) = omega (arith, signed_arith, year_start-1970, year_start-2370) in
    let rise : (z next : ℤ) → next ≡ z +ℤ pos 1 → P z → P next = λ z next h p. omega (arith, signed_arith, step z next h) in
    let fall : (z next : ℤ) → next ≡ z +ℤ pos 1 → P next → P z = λ z next h p. omega (arith, signed_arith, step z next h) in
    let all = int_induction P base rise fall (y -ℤ pos 1970) in
    let here : y -ℤ pos 1970 +ℤ pos 1970 ≡ y = omega (arith, signed_arith) in
    let there : y -ℤ pos 1970 +ℤ pos 2370 ≡ later = omega (arith, signed_arith) in
    rw (here, there) at all

year_start-add : (y later : ℤ) (k : ℕ) → later ≡ y +ℤ pos 1 +ℤ pos k → (year_start y +ℤ pos (days_in_year y)) ≤ℤ year_start later
year_start-add y later zero e = omega (arith, signed_arith, year_start-next y later (omega (arith, signed_arith)))
year_start-add y later (suc k) e =
    let before = y +ℤ pos 1 +ℤ pos k in
    omega (arith, signed_arith, year_start-add y before k refl, year_start-next before later (omega (arith, signed_arith)))

-- a later year begins after this one has ended
pub year_start-later : (y later : ℤ) → y <ℤ later → (year_start y +ℤ pos (days_in_year y)) ≤ℤ year_start later
year_start-later y later h =
    year_start-add y later (up later + down y - (down later + up y + 1)) (omega (arith, signed_arith))
