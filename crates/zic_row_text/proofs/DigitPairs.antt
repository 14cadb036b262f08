-- The table of two digits.
use Rattle.std.proofs.Common.{◌≡◌, ℕ, zero, suc, ◌+◌, ◌*◌, ◌/◌, ◌%◌, ◌-◌, ◌<◌, Bool, true, ◌&&◌, T, eqb, get_or, inl, inr, arith, eq-zero-or-pos, eqb→eq}
use lib.Ieee.Fits.{and_l, and_r}
use Rattle.zic_row_text.specs.declared.digits.TheConstants.{PAIRS}

-- the numbers below this one have their digits in the table
abbrev are_pairs : ℕ → Bool
are_pairs zero = true
are_pairs (suc n) = (eqb (get_or PAIRS (n * 2) 0) (48 + n / 10) && eqb (get_or PAIRS (n * 2 + 1) 0) (48 + n % 10)) && are_pairs n

below : (n k : ℕ) → T (are_pairs n) → k < n → (get_or PAIRS (k * 2) 0 ≡ 48 + k / 10) × (get_or PAIRS (k * 2 + 1) 0 ≡ 48 + k % 10)
below zero k all h = absurd (omega arith)
below (suc n) k all h =
    elim (eq-zero-or-pos (n - k)) [
      | inl none ↦
          let last : k ≡ n = omega arith in
          let both = and_l _ (are_pairs n) all in
          rw last (eqb→eq _ _ (and_l _ _ both), eqb→eq _ _ (and_r _ _ both))
      | inr some ↦ below n k (and_r _ (are_pairs n) all) (omega arith)
    ]

-- the digits of a number below 100
pub pairs_at : (n : ℕ) → n < 100 → (get_or PAIRS (n * 2) 0 ≡ 48 + n / 10) × (get_or PAIRS (n * 2 + 1) 0 ≡ 48 + n % 10)
pairs_at n h = below 100 n tt h
