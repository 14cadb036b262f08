-- Keys of names.
use Rattle.std.proofs.Common.{◌≡◌, ℕ, zero, suc, ◌+◌, ◌-◌, ◌*◌, ◌^◌, ◌<◌, ◌≤◌, ◌++◌, Bool, true, false, cond, eqb, List, [], ◌∷◌, length, take, drop, replicate, refl, ap, ap₂, ◌∙◌, arith, bit_and, pow-suc}
use Rattle.std.specs.Int.Bits.{and_zero_r}
use Rattle.std.specs.Simd.Lanes.{Each1, mask_l, zip2}
use Rattle.std.proofs.lemmas.Bool.{eqb-true}
use Rattle.std.proofs.Math.Seq.{take-append-add}
use Rattle.std.proofs.lemmas.List.{drop-append-le, drop-replicate, length-replicate, take-replicate, take-take}
use Rattle.std.proofs.lemmas.Nat.{and_mask}

cleared : (xs : List ℕ) (n : ℕ) → length xs ≡ n → zip2 bit_and xs (replicate n 0) ≡ replicate n 0
cleared [] zero long = refl
cleared [] (suc n) long = absurd (omega (arith, long))
cleared (x ∷ xs) zero long = absurd (omega (arith, long))
cleared (x ∷ xs) (suc n) long = ap₂ (λ (a : ℕ) (t : List ℕ). a ∷ t) (and_zero_r x) (cleared xs n (omega (arith, long)))

stays : (x : ℕ) → x < 2 ^ 8 → bit_and x 255 ≡ x
stays x small = and_mask x 8 ∙ omega (arith, small)

-- bytes under a mask that keeps the first of them
pub masked : (xs : List ℕ) (n m : ℕ) → length xs ≡ n + m → Each1 (λ x. x < 2 ^ 8) xs
    → zip2 bit_and xs (replicate n 255 ++ replicate m 0) ≡ take n xs ++ replicate m 0
masked xs zero m long bytes = cleared xs m (omega (arith, long))
masked [] (suc n) m long bytes = absurd (omega (arith, long))
masked (x ∷ xs) (suc n) m long bytes = ap₂ (λ (a : ℕ) (t : List ℕ). a ∷ t) (stays x bytes.0) (masked xs n m (omega (arith, long)) bytes.1)

-- a part of bytes that keep, and as many that clear
pub mask_part : (w n keep clear : ℕ) → n ≤ w
    → take w (take (w + w - (w - n)) (drop (w - n) (replicate w keep ++ replicate w clear))) ≡ replicate n keep ++ replicate (w - n) clear
mask_part w n keep clear short =
    let ones = replicate n keep in
    let size : length ones ≡ n = length-replicate n keep in
    let back : w - (w - n) ≡ n = omega arith in
    let sum : w ≡ length ones + (w - n) = omega arith in
    take-take w (w + w - (w - n)) (drop (w - n) (replicate w keep ++ replicate w clear)) (omega arith)
    ∙ ap (λ (t : List ℕ). take w t)
    (drop-append-le (w - n) (replicate w keep) (replicate w clear) (omega (arith, length-replicate w keep))
    ∙ ap (λ (t : List ℕ). t ++ replicate w clear) (drop-replicate (w - n) w keep ∙ ap (λ (m : ℕ). replicate m keep) back))
    ∙ ap (λ (m : ℕ). take m (ones ++ replicate w clear)) sum
    ∙ take-append-add ones (replicate w clear) (w - n)
    ∙ ap (λ (t : List ℕ). ones ++ t) (take-replicate (w - n) w clear (omega arith))

-- ---- comparisons

-- lanes are the same where all bits of their comparison are set
pub same_lanes : (xs ys : List ℕ) → length xs ≡ length ys → mask_l (zip2 eqb xs ys) + 1 ≡ 2 ^ length xs → xs ≡ ys
same_lanes [] [] long all = refl
same_lanes [] (y ∷ ys) long all = absurd (omega (arith, long))
same_lanes (x ∷ xs) [] long all = absurd (omega (arith, long))
same_lanes (x ∷ xs) (y ∷ ys) long all = by_test (eqb x y) refl all (same_lanes xs ys (omega (arith, long)))
  where
    by_test : (b : Bool) → eqb x y ≡ b → cond b 1 0 + 2 * mask_l (zip2 eqb xs ys) + 1 ≡ 2 ^ suc (length xs)
        → (mask_l (zip2 eqb xs ys) + 1 ≡ 2 ^ length xs → xs ≡ ys) → x ∷ xs ≡ y ∷ ys
    by_test true is all rest = ap₂ (λ (a : ℕ) (t : List ℕ). a ∷ t) (eqb-true x y is) (rest (omega (arith, all, pow-suc 2 (length xs))))
    by_test false is all rest = absurd (omega (arith, all, pow-suc 2 (length xs)))
