-- How large numbers of so many digits are.
use Rattle.std.proofs.Common.{ℕ, ◌^◌, ◌<◌, ◌≤◌, arith}
use Rattle.std.proofs.Math.Nat.{pow-le-pow_right}

-- a number of some digits is one of more
pub of_more_digits : (n i k : ℕ) → n < 10 ^ i → i ≤ k → n < 10 ^ k
of_more_digits n i k below le =
    let ten : 0 < 10 = omega arith in
    let power : 10 ^ i ≤ 10 ^ k = pow-le-pow_right ten le in
    omega (arith, power, below)
