-- A mask without its lowest bit.
use Rattle.std.proofs.Common.{◌≡◌, ℕ, suc, ◌+◌, ◌-◌, ◌*◌, ◌/◌, ◌%◌, ◌^◌, ◌<◌, ◌≤◌, sym, ap, ap₂, ◌∙◌, arith, bit_and, pow-suc, ⊎_elim}
use Rattle.std.specs.Int.{bit_at}
use Rattle.std.specs.Int.Bits.{and_self}
use Rattle.std.proofs.Math.Nat.{mod-lt, zero-mul}
use Rattle.std.proofs.lemmas.Nat.{shr_split}
use Rattle.std.proofs.lemmas.Bool.{cases_lt}
use Rattle.std.proofs.lemmas.Nat.{and_block, and_comm, pow_pos}
use Rattle.std.proofs.lemmas.Nat.Bits.{and_pow, bit_at-pow_other, bit_at-pow_same, bit_at-zero, bit_at_cat_high, bit_at_cat_low, bit_at_ones_above, same_from_bits_below}

-- k is the place of the lowest bit
module _ (m k : ℕ) (here : bit_at m k ≡ 1) (below : (i : ℕ) → i < k → bit_at m i ≡ 0) where
  abbrev top : ℕ
  top = m / 2 ^ suc k

  half : 2 ^ k < 2 ^ suc k
  half = omega (arith, pow-suc 2 k, pow_pos k)

  low_part : m % 2 ^ suc k ≡ 2 ^ k
  low_part =
      let r = m % 2 ^ suc k in
      same_from_bits_below (suc k) r (2 ^ k) (mod-lt m (pow_pos (suc k))) half (λ i lt.
      sym (bit_at_cat_low top (suc k) r i lt) ∙ ap (λ (n : ℕ). bit_at n i) (shr_split m (suc k))
      ∙ ⊎_elim (λ (less : i < k). below i less ∙ sym (bit_at-pow_other k i (λ same. omega (arith, same, less))))
      (λ (from : k ≤ i). let same : i ≡ k = omega (arith, from, lt) in ap (bit_at m) same ∙ here ∙ sym (bit_at-pow_same k) ∙ ap (bit_at (2 ^ k)) (sym same))
      (cases_lt i k))

  parts : m ≡ top * 2 ^ suc k + 2 ^ k
  parts = sym (shr_split m (suc k)) ∙ ap (λ (r : ℕ). top * 2 ^ suc k + r) low_part

  cleared : bit_and m (m - 1) ≡ top * 2 ^ suc k + 0
  cleared =
      let less : m - 1 ≡ top * 2 ^ suc k + (2 ^ k - 1) = omega (arith, parts, pow_pos k) in
      let none : bit_and (2 ^ k) (2 ^ k - 1) ≡ 0 = and_comm (2 ^ k) (2 ^ k - 1) ∙ and_pow (2 ^ k - 1) k ∙ ap (λ (b : ℕ). b * 2 ^ k) (bit_at_ones_above k k (omega arith)) ∙ zero-mul (2 ^ k) in
      ap₂ bit_and parts less ∙ and_block (suc k) top top (2 ^ k) (2 ^ k - 1) half (omega (arith, half))
      ∙ ap₂ (λ (a b : ℕ). a * 2 ^ suc k + b) (and_self top) none

  pub none_left : (i : ℕ) → i ≤ k → bit_at (bit_and m (m - 1)) i ≡ 0
  none_left i le = ap (λ (n : ℕ). bit_at n i) cleared ∙ bit_at_cat_low top (suc k) 0 i (omega (arith, le)) ∙ bit_at-zero i

  pub others_left : (i : ℕ) → k < i → bit_at (bit_and m (m - 1)) i ≡ bit_at m i
  others_left i past =
      let from : suc k ≤ i = omega (arith, past) in
      ap (λ (n : ℕ). bit_at n i) cleared ∙ bit_at_cat_high top (suc k) 0 i (pow_pos (suc k)) from
      ∙ sym (bit_at_cat_high top (suc k) (2 ^ k) i half from) ∙ ap (λ (n : ℕ). bit_at n i) (sym parts)
