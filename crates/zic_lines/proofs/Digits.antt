-- How large numbers of so many digits are.
use Rattle.std.proofs.Common.{◌≡◌, ℕ, ◌+◌, ◌-◌, ◌*◌, ◌^◌, ◌<◌, ◌≤◌, sym, ap, ◌∙◌, arith, subst}
use Rattle.std.proofs.lemmas.Nat.{pow-add}
use Rattle.std.proofs.Math.Nat.{pow-le-pow_right, mul-lt-mul_of_pos_right, one-le-pow}

-- eight digits before one more
pub eight_digits : (n i : ℕ) → n < 10 ^ i → i < 9 → n < 10 ^ 8
eight_digits n i below lt =
    let ten : 0 < 10 = omega arith in
    let le : i ≤ 8 = omega arith in
    let power : 10 ^ i ≤ 10 ^ 8 = pow-le-pow_right ten le in
    omega (arith, power, below)

-- so many digits, and zeros up to nine
pub nine_digits : (n k : ℕ) → n < 10 ^ k → k ≤ 9 → n * 10 ^ (9 - k) < 10 ^ 9
nine_digits n k below le =
    let some : 0 < 10 ^ (9 - k) = omega (arith, one-le-pow (9 - k) 10 (omega arith)) in
    let less : n * 10 ^ (9 - k) < 10 ^ k * 10 ^ (9 - k) = mul-lt-mul_of_pos_right below some in
    let sum : k + (9 - k) ≡ 9 = omega arith in
    let whole : 10 ^ k * 10 ^ (9 - k) ≡ 10 ^ 9 = sym (pow-add 10 k (9 - k)) ∙ ap (λ (i : ℕ). 10 ^ i) sum in
    let P : ℕ → Type 0 = λ m. n * 10 ^ (9 - k) < m in
    subst P whole less
