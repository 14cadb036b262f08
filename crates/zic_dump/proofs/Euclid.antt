-- Quotients and remainders.
use Rattle.std.proofs.Common.{◌≡◌, ℕ, ℤ, pos, negsuc, ◌+ℤ◌, ◌*ℤ◌, ◌<ℤ◌, ◌≤ℤ◌, arith}
use Rattle.std.specs.Int.{int_div_euclid, int_rem_euclid}
use Rattle.std.proofs.lemmas.Int.{ints}

-- the number is so many times n, and a rest
pub record IsDivided (n : ℕ) (t quotient rest : ℤ) : Type 0 where
  pub is : t ≡ (pos n *ℤ quotient) +ℤ rest
  pub low : pos 0 ≤ℤ rest
  pub high : rest <ℤ pos n

-- ---- by the seconds of a day

pub by_day : (t : ℤ) → IsDivided 86_400 t (int_div_euclid t (pos 86_400)) (int_rem_euclid t (pos 86_400))
by_day (pos a) = record { is = omega (arith, ints); low = omega (arith, ints); high = omega (arith, ints) }
by_day (negsuc a) = record { is = omega (arith, ints); low = omega (arith, ints); high = omega (arith, ints) }

-- the day and the second of it, by those of an instant and of what an offset adds to them
pub shown_day : (t offset day rest more second : ℤ) → IsDivided 86_400 t day rest → IsDivided 86_400 (rest +ℤ offset) more second
    → (day +ℤ more ≡ int_div_euclid (t +ℤ offset) (pos 86_400)) × (second ≡ int_rem_euclid (t +ℤ offset) (pos 86_400))
shown_day t offset day rest more second one other =
    let sum = by_day (t +ℤ offset) in
    let a = one.is in
    let b = other.is in
    let c = sum.is in
    let same : day +ℤ more ≡ int_div_euclid (t +ℤ offset) (pos 86_400) = omega (arith, ints, a, b, c, other.low, other.high, sum.low, sum.high) in
    (same, omega (arith, ints, a, b, c, same))

-- ---- by the days of 400 years

pub by_days : (t : ℤ) → IsDivided 146_097 t (int_div_euclid t (pos 146_097)) (int_rem_euclid t (pos 146_097))
by_days (pos a) = record { is = omega (arith, ints); low = omega (arith, ints); high = omega (arith, ints) }
by_days (negsuc a) = record { is = omega (arith, ints); low = omega (arith, ints); high = omega (arith, ints) }

-- ---- by their seconds

-- an instant's place in the 400 years
abbrev pub place : ℤ → ℤ
place t = int_rem_euclid t (pos 12_622_780_800)

pub by_seconds : (t : ℤ) → IsDivided 12_622_780_800 t (int_div_euclid t (pos 12_622_780_800)) (place t)
by_seconds (pos a) = record { is = omega (arith, ints); low = omega (arith, ints); high = omega (arith, ints) }
by_seconds (negsuc a) = record { is = omega (arith, ints); low = omega (arith, ints); high = omega (arith, ints) }

-- so many times 400 years apart are two of one place
pub same_place : (u v periods : ℤ) → u ≡ v +ℤ (pos 12_622_780_800 *ℤ periods) → place u ≡ place v
same_place u v periods apart =
    let one = by_seconds u in
    let other = by_seconds v in
    let a = one.is in
    let b = other.is in
    let same : int_div_euclid u (pos 12_622_780_800) ≡ int_div_euclid v (pos 12_622_780_800) +ℤ periods = omega (arith, ints, a, b, apart, one.low, one.high, other.low, other.high) in
    omega (arith, ints, a, b, apart, same)
