-- The table of the days of a year that begins on 1 March.
use Rattle.std.proofs.Common.{◌≡◌, ℕ, zero, suc, ◌*◌, ◌-◌, ◌<◌, Bool, true, false, ◌&&◌, T, eqb, List, [], ◌∷◌, take, drop, inl, inr, refl, ap₂, arith, eq-zero-or-pos, eqb→eq}
use lib.Ieee.Fits.{and_l, and_r}
use Rattle.zic_row_text.specs.code.March.{march_text}
use Rattle.zic_row_text.specs.declared.date.TheConstants.{DAY_TEXTS}

-- two texts are the same
abbrev pub same : List ℕ → List ℕ → Bool
same [] [] = true
same [] (b ∷ ys) = false
same (a ∷ xs) [] = false
same (a ∷ xs) (b ∷ ys) = eqb a b && same xs ys

pub same_is : (xs ys : List ℕ) → T (same xs ys) → xs ≡ ys
same_is [] [] h = refl
same_is [] (b ∷ ys) h = absurd h
same_is (a ∷ xs) [] h = absurd h
same_is (a ∷ xs) (b ∷ ys) h = ap₂ (λ (n : ℕ) (l : List ℕ). n ∷ l) (eqb→eq a b (and_l _ (same xs ys) h)) (same_is xs ys (and_r (eqb a b) _ h))

-- the days below this one have their texts in the table
abbrev are_texts : ℕ → Bool
are_texts zero = true
are_texts (suc n) = same (take 7 (drop (8 * n) DAY_TEXTS)) (march_text n) && are_texts n

below : (n k : ℕ) → T (are_texts n) → k < n → take 7 (drop (8 * k) DAY_TEXTS) ≡ march_text k
below zero k all h = absurd (omega arith)
below (suc n) k all h =
    elim (eq-zero-or-pos (n - k)) [
      | inl none ↦
          let last : k ≡ n = omega arith in
          rw last (same_is (take 7 (drop (8 * n) DAY_TEXTS)) (march_text n) (and_l _ (are_texts n) all))
      | inr some ↦ below n k (and_r _ (are_texts n) all) (omega arith)
    ]

-- the text of a day
pub text_at : (n : ℕ) → n < 366 → take 7 (drop (8 * n) DAY_TEXTS) ≡ march_text n
unfolding march_text
text_at n h = below 366 n tt h
