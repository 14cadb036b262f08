-- The starts of years.
use Rattle.std.proofs.Common.{◌≡◌, ℕ, ◌≤◌, ◌<◌, ℤ, pos, ◌-ℤ◌, ◌≤ℤ◌, ◌<ℤ◌, inl, inr, refl, arith}
use Rattle.std.proofs.lemmas.Int.{ints, by_lt_z}
use Rattle.zic_calendar.specs.Calendar.{day_number, IsDate, IsSupportedYear}
use Rattle.zic_calendar.proofs.DateLemmas.{day_number-rises, supported_day}
use Rattle.zic_dump.specs.Years.{year_instant}
use Rattle.zic_dump.specs.code.Listed.{IsListed}

-- January has its first four days
in_january : (y : ℤ) (d : ℕ) → 1 ≤ d → d ≤ 4 → IsDate y 1 d
in_january y d low high = ((omega arith, omega arith), (low, omega (arith, high)))

rises : (y : ℤ) (d later : ℕ) → 1 ≤ d → d < later → later ≤ 4 → day_number y 1 d <ℤ day_number y 1 later
rises y d later low order high =
    day_number-rises y 1 d y 1 later (in_january y d low (omega (arith, order, high))) (in_january y later (omega (arith, low, order)) high)
    (inr (refl, inr (refl, order)))

-- the first of January is three days or more after the first supported day, and before the last
pub listed : (y : ℕ) → 2 ≤ y → y ≤ 9999 → IsListed (year_instant y)
listed y low high =
    let year = pos y in
    let before = year -ℤ pos 1 in
    let supported : IsSupportedYear year = (omega (arith, ints, low), omega (arith, ints, high)) in
    let supported_before : IsSupportedYear before = (omega (arith, ints, low), omega (arith, ints, high)) in
    let least = supported_day before 1 1 (in_january before 1 (omega arith) (omega arith)) supported_before in
    let first = rises before 1 2 (omega arith) (omega arith) (omega arith) in
    let second = rises before 2 3 (omega arith) (omega arith) (omega arith) in
    let third = day_number-rises before 1 3 year 1 1 (in_january before 3 (omega arith) (omega arith)) (in_january year 1 (omega arith) (omega arith)) (inl (omega (arith, ints))) in
    let greatest = supported_day year 1 4 (in_january year 4 (omega arith) (omega arith)) supported in
    let fourth = rises year 1 2 (omega arith) (omega arith) (omega arith) in
    let fifth = rises year 2 3 (omega arith) (omega arith) (omega arith) in
    let sixth = rises year 3 4 (omega arith) (omega arith) (omega arith) in
    record {
      low = let l = least.0 in omega (arith, ints, l, first, second, third);
      high = let h = greatest.1 in omega (arith, ints, h, fourth, fifth, sixth);
    }

-- years in order start in order
pub in_order : (a b : ℕ) → a ≤ b → year_instant a ≤ℤ year_instant b
in_order a b order =
    by_lt_z (pos a) (pos b)
    (λ earlier.
    let day = day_number-rises (pos a) 1 1 (pos b) 1 1 (in_january (pos a) 1 (omega arith) (omega arith)) (in_january (pos b) 1 (omega arith) (omega arith)) (inl earlier) in
    omega (arith, ints, day))
    (λ not_earlier. let same : a ≡ b = omega (arith, ints, order) in rw same (omega (arith, ints)))
