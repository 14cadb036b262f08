-- Digits in the lanes of a vector.
use Rattle.std.proofs.Common.{◌≡◌, ℕ, zero, suc, ◌+◌, ◌-◌, ◌*◌, ◌/◌, ◌%◌, ◌^◌, ◌<◌, ◌≤◌, ◌++◌, Bool, true, false, not, ◌&&◌, ◌||◌, T, cond, eqb, ltb, inl, inr, eq-zero-or-pos, List, [], ◌∷◌, length, get_or, take, drop, map, fold, replicate, refl, ap, ap₂, sym, ◌∙◌, arith, bit_and, bit_xor, pow-suc}
use Rattle.std.specs.Int.Bits.{and_zero_r}
use Rattle.std.specs.Simd.Lanes.{Each1, all_below, digits_l, dots, mask_l, number_l, pair_sums, products, zip2}
use Rattle.std.proofs.Math.Seq.{take-append-add}
use Rattle.std.proofs.lemmas.List.{drop-append-le, drop-replicate, length-replicate, take-replicate, take-take}
use Rattle.std.proofs.lemmas.Nat.{and_mask}
use Rattle.std.proofs.lemmas.Bool.{eqb-true, ltb-true}
use Rattle.std.proofs.lemmas.Bool.Decides.{nat_tests}
use Rattle.std.specs.Prelude.{nat_le, Some}
use Rattle.std.specs.Char.{is_ascii_digit}
use Rattle.std.specs.List.{list_all}
use lib.Dec.{lt→ltb}
use lib.Ieee.Fits.{and_l, and_r}
use Rattle.zic_base.specs.Number.{number}
use Rattle.zic_row_text.specs.declared.wide.TheConstants.{HUNDREDS}
use Rattle.zic_row_text.specs.code.Lanes.{joined, lanes_of, lane_value}

-- a part of bytes that keep, and as many that clear
pub mask_part : (w n keep clear : ℕ) → n ≤ w
    → take w (take (w + w - (w - n)) (drop (w - n) (replicate w keep ++ replicate w clear))) ≡ replicate n keep ++ replicate (w - n) clear
mask_part w n keep clear short =
    let ones = replicate n keep in
    let size : length ones ≡ n = length-replicate n keep in
    let back : w - (w - n) ≡ n = omega arith in
    let sum : w ≡ length ones + (w - n) = omega arith in
    take-take w (w + w - (w - n)) (drop (w - n) (replicate w keep ++ replicate w clear)) (omega arith)
    ∙ ap (λ (t : List ℕ). take w t)
    (drop-append-le (w - n) (replicate w keep) (replicate w clear) (omega (arith, length-replicate w keep))
    ∙ ap (λ (t : List ℕ). t ++ replicate w clear) (drop-replicate (w - n) w keep ∙ ap (λ (m : ℕ). replicate m keep) back))
    ∙ ap (λ (m : ℕ). take m (ones ++ replicate w clear)) sum
    ∙ take-append-add ones (replicate w clear) (w - n)
    ∙ ap (λ (t : List ℕ). ones ++ t) (take-replicate (w - n) w clear (omega arith))

-- ---- bytes, against '0'

-- what is so of the bytes below this one
abbrev are_digits_in_lanes : ℕ → Bool
are_digits_in_lanes zero = true
are_digits_in_lanes (suc n) = (ltb (bit_xor n 48) 256 && (not (ltb (bit_xor n 48) 10) || (is_ascii_digit n && eqb (bit_xor n 48) (n - 48)))) && are_digits_in_lanes n

lane_below : (n k : ℕ) → T (are_digits_in_lanes n) → k < n → T (ltb (bit_xor k 48) 256 && (not (ltb (bit_xor k 48) 10) || (is_ascii_digit k && eqb (bit_xor k 48) (k - 48))))
lane_below zero k all h = absurd (omega arith)
lane_below (suc n) k all h =
    elim (eq-zero-or-pos (n - k)) [
      | inl none ↦ let last : k ≡ n = omega arith in rw last (and_l _ (are_digits_in_lanes n) all)
      | inr some ↦ lane_below n k (and_r _ (are_digits_in_lanes n) all) (omega arith)
    ]

is_true : (b : Bool) → T b → b ≡ true
is_true true t = refl
is_true false t = absurd t

-- a byte that differs from '0' stays a byte, and is a digit where the difference is below ten
fits : (x : ℕ) → x < 256 → bit_xor x 48 < 256
fits x byte = ltb-true (bit_xor x 48) 256 (is_true _ (and_l _ _ (lane_below 256 x tt byte)))

digit : (x : ℕ) → x < 256 → bit_xor x 48 < 10 → (is_ascii_digit x ≡ true) × (bit_xor x 48 ≡ x - 48)
digit x byte low =
    let facts = and_r (ltb (bit_xor x 48) 256) _ (lane_below 256 x tt byte) in
    let ten : ltb (bit_xor x 48) 10 ≡ true = grind (arith, nat_tests, low) in
    let both : T (is_ascii_digit x && eqb (bit_xor x 48) (x - 48)) = rw ten at facts in
    (is_true _ (and_l _ _ both), eqb-true (bit_xor x 48) (x - 48) (is_true _ (and_r (is_ascii_digit x) _ both)))

-- ---- lanes under a mask

same_length : (xs : List ℕ) (n : ℕ) → length xs ≡ n → Each1 (λ x. x < 256) xs
    → zip2 bit_and (zip2 bit_xor xs (replicate n 48)) (replicate n 255) ≡ map (λ x. bit_xor x 48) xs
same_length [] zero long bytes = refl
same_length [] (suc n) long bytes = absurd (omega (arith, long))
same_length (x ∷ xs) zero long bytes = absurd (omega (arith, long))
same_length (x ∷ xs) (suc n) long bytes =
    ap₂ (λ (a : ℕ) (t : List ℕ). a ∷ t) (and_mask (bit_xor x 48) 8 ∙ omega (arith, fits x bytes.0)) (same_length xs n (omega (arith, long)) bytes.1)

pub masked : (xs : List ℕ) (m n k : ℕ) → length xs ≡ k → k ≡ m + n → Each1 (λ x. x < 256) xs
    → zip2 bit_and (zip2 bit_xor xs (replicate k 48)) (replicate m 0 ++ replicate n 255) ≡ replicate m 0 ++ map (λ x. bit_xor x 48) (drop m xs)
masked xs zero n k long sum bytes = let same : k ≡ n = omega (arith, sum) in rw same (same_length xs n (long ∙ same) bytes)
masked [] (suc m) n k long sum bytes = absurd (omega (arith, long, sum))
masked (x ∷ xs) (suc m) n zero long sum bytes = absurd (omega (arith, sum))
masked (x ∷ xs) (suc m) n (suc k) long sum bytes =
    ap₂ (λ (a : ℕ) (t : List ℕ). a ∷ t) (and_zero_r (bit_xor x 48)) (masked xs m n k (omega (arith, long)) (omega (arith, sum)) bytes.1)

-- ---- comparisons

-- lanes are below ten where all bits of their comparison are set
pub below_ten : (xs : List ℕ) (n : ℕ) → length xs ≡ n → mask_l (zip2 ltb xs (replicate n 10)) + 1 ≡ 2 ^ n → Each1 (λ x. x < 10) xs
below_ten [] n long all = tt
below_ten (x ∷ xs) zero long all = absurd (omega (arith, long))
below_ten (x ∷ xs) (suc n) long all = by_test (ltb x 10) refl all (below_ten xs n (omega (arith, long)))
  where
    by_test : (b : Bool) → ltb x 10 ≡ b → cond b 1 0 + 2 * mask_l (zip2 ltb xs (replicate n 10)) + 1 ≡ 2 ^ suc n
        → (mask_l (zip2 ltb xs (replicate n 10)) + 1 ≡ 2 ^ n → Each1 (λ y. y < 10) xs) → Each1 (λ y. y < 10) (x ∷ xs)
    by_test true is all rest = (ltb-true x 10 is, rest (omega (arith, all, pow-suc 2 n)))
    by_test false is all rest = absurd (omega (arith, all, pow-suc 2 n))

-- ---- numbers

each_after : (m : ℕ) (ys : List ℕ) → Each1 (λ x. x < 10) (replicate m 0 ++ ys) → Each1 (λ x. x < 10) ys
each_after zero ys all = all
each_after (suc m) ys all = each_after m ys all.1

zeros_first : (m : ℕ) (ys : List ℕ) → fold (λ n d. 10 * n + d) 0 (replicate m 0 ++ ys) ≡ fold (λ n d. 10 * n + d) 0 ys
zeros_first zero ys = refl
zeros_first (suc m) ys = zeros_first m ys

digits_are : (a : ℕ) (xs : List ℕ) → Each1 (λ x. x < 256) xs → Each1 (λ x. x < 10) (map (λ x. bit_xor x 48) xs)
    → (list_all is_ascii_digit xs ≡ true) × (fold (λ n d. 10 * n + d) a (map (λ x. bit_xor x 48) xs) ≡ fold (λ n d. 10 * n + (d - 48)) a xs)
digits_are a [] bytes low = (refl, refl)
digits_are a (x ∷ xs) bytes low =
    let here = digit x bytes.0 low.0 in
    let rest = digits_are (10 * a + bit_xor x 48) xs bytes.1 low.1 in
    (rw here.0 rest.0, rest.1 ∙ ap (λ (d : ℕ). fold (λ n e. 10 * n + (e - 48)) (10 * a + d) xs) here.1)

-- the number of a text, in its lanes
pub number_of_lanes : (text : List ℕ) → 1 ≤ length text → length text ≤ 16 → Each1 (λ x. x < 256) text → Each1 (λ x. x < 10) (lanes_of text)
    → number 16 text ≡ Some (lane_value (lanes_of text))
unfolding number
number_of_lanes text some few bytes low =
    let m = 16 - length text in
    let facts = digits_are 0 text bytes (each_after m _ low) in
    let value = zeros_first m (map (λ x. bit_xor x 48) text) ∙ facts.1 in
    let one : nat_le 1 (length text) ≡ true = grind (arith, nat_tests, some) in
    let two : nat_le (length text) 16 ≡ true = grind (arith, nat_tests, few) in
    rw (one, two, facts.0) (ap Some (sym value))

-- lanes one by one
pub one_by_one : (P : List ℕ → Type 0) → ((a b c d e f g h i j k l m n o p : ℕ) → P (a ∷ b ∷ c ∷ d ∷ e ∷ f ∷ g ∷ h ∷ i ∷ j ∷ k ∷ l ∷ m ∷ n ∷ o ∷ p ∷ [])) → (xs : List ℕ) → length xs ≡ 16 → P xs
one_by_one P of (a ∷ b ∷ c ∷ d ∷ e ∷ f ∷ g ∷ h ∷ i ∷ j ∷ k ∷ l ∷ m ∷ n ∷ o ∷ p ∷ []) long = of a b c d e f g h i j k l m n o p
one_by_one P of xs long = absurd (omega (arith, long))

-- ---- numbers of two lanes

-- words of two digits, times 2,561, without what is below and above a byte
pub pairs_are : (n : ℕ) (xs : List ℕ) → length xs ≡ 2 * n → Each1 (λ x. x < 10) xs
    → map (λ w. w * 2561 % 65536 / 256) (digits_l 65536 n (number_l 256 xs)) ≡ joined 10 xs
pairs_are zero [] long low = refl
pairs_are zero (x ∷ xs) long low = absurd (omega (arith, long))
pairs_are (suc n) [] long low = absurd (omega (arith, long))
pairs_are (suc n) (x ∷ []) long low = absurd (omega (arith, long))
pairs_are (suc n) (a ∷ b ∷ xs) long low =
    let rest = number_l 256 xs in
    let first : (a + 256 * (b + 256 * rest)) % 65536 ≡ a + 256 * b = omega (arith, low.0, low.1.0) in
    let after : (a + 256 * (b + 256 * rest)) / 65536 ≡ rest = omega (arith, low.0, low.1.0) in
    let number : (a + 256 * b) * 2561 % 65536 / 256 ≡ 10 * a + b = omega (arith, low.0, low.1.0) in
    ap₂ (λ (m : ℕ) (l : List ℕ). m ∷ l) (ap (λ (w : ℕ). w * 2561 % 65536 / 256) first ∙ number)
    (ap (λ (r : ℕ). map (λ w. w * 2561 % 65536 / 256) (digits_l 65536 n r)) after ∙ pairs_are n xs (omega (arith, long)) low.1.1)

-- they are below 100
pub pairs_low : (xs : List ℕ) → Each1 (λ x. x < 10) xs → Each1 (λ p. p < 100) (joined 10 xs)
pairs_low [] low = tt
pairs_low (x ∷ []) low = tt
pairs_low (a ∷ b ∷ xs) low = (omega (arith, low.0, low.1.0), pairs_low xs low.1.1)

-- lanes with a zero after each
abbrev spread : List ℕ → List ℕ
spread [] = []
spread (p ∷ ps) = p ∷ 0 ∷ spread ps

abbrev twice : ℕ → ℕ
twice zero = zero
twice (suc n) = suc (suc (twice n))

-- the bytes of words that are below 100
bytes_are : (ps : List ℕ) → Each1 (λ p. p < 100) ps → digits_l 256 (twice (length ps)) (number_l 65536 ps) ≡ spread ps
bytes_are [] low = refl
bytes_are (p ∷ ps) low =
    let rest = number_l 65536 ps in
    let first : (p + 65536 * rest) % 256 ≡ p = omega (arith, low.0) in
    let second : (p + 65536 * rest) / 256 % 256 ≡ 0 = omega (arith, low.0) in
    let after : (p + 65536 * rest) / 256 / 256 ≡ rest = omega (arith, low.0) in
    ap₂ (λ (m : ℕ) (l : List ℕ). m ∷ l) first (ap₂ (λ (m : ℕ) (l : List ℕ). m ∷ l) second
    (ap (λ (r : ℕ). digits_l 256 (twice (length ps)) r) after ∙ bytes_are ps low.1))

sum_is : (m n : ℕ) → (m * 100 + 0 * 0) + (n * 1 + 0 * 0) ≡ 100 * m + n
sum_is m n = omega arith

both : (a b : Bool) → T a → T b → T (a && b)
both true b s t = t
both false b s t = absurd s

each_below : (n : ℕ) (ks : List ℕ) → Each1 (λ k. k < n) ks → T (all_below n ks)
each_below n [] small = tt
each_below n (k ∷ ks) small = both (ltb k n) (all_below n ks) (lt→ltb k n small.0) (each_below n ks small.1)

-- the sums of hundreds and ones, in the bytes of words
pub record AreQuads (bytes pairs : List ℕ) : Type 0 where
  pub fit : T (all_below 32768 (pair_sums (products bytes HUNDREDS)))
  pub are : dots bytes HUNDREDS ≡ joined 100 pairs

spread_quads : (ps : List ℕ) → length ps ≡ 8 → Each1 (λ p. p < 100) ps → AreQuads (spread ps) ps
spread_quads (a ∷ b ∷ c ∷ d ∷ e ∷ f ∷ g ∷ h ∷ []) long low =
    let cons = λ (m : ℕ) (l : List ℕ). m ∷ l in
    record {
      fit = each_below 32768 (pair_sums (products (spread (a ∷ b ∷ c ∷ d ∷ e ∷ f ∷ g ∷ h ∷ [])) HUNDREDS))
          (omega (arith, low.0), (omega (arith, low.1.0), (omega (arith, low.1.1.0), (omega (arith, low.1.1.1.0), (omega (arith, low.1.1.1.1.0), (omega (arith, low.1.1.1.1.1.0), (omega (arith, low.1.1.1.1.1.1.0), (omega (arith, low.1.1.1.1.1.1.1.0), tt))))))));
      are = ap₂ cons (sum_is a b) (ap₂ cons (sum_is c d) (ap₂ cons (sum_is e f) (ap₂ cons (sum_is g h) refl)));
    }
spread_quads ps long low = absurd (omega (arith, long))

-- eight words below 100
pub quads_are : (ps : List ℕ) → length ps ≡ 8 → Each1 (λ p. p < 100) ps → AreQuads (digits_l 256 16 (number_l 65536 ps)) ps
quads_are ps long low =
    let bytes : digits_l 256 16 (number_l 65536 ps) ≡ spread ps = ap (λ (n : ℕ). digits_l 256 (twice n) (number_l 65536 ps)) (sym long) ∙ bytes_are ps low in
    rw bytes (spread_quads ps long low)

-- what the numbers of each four digits make up
pub record AreSums (quads digits : List ℕ) : Type 0 where
  pub high : get_or quads 0 0 * 10_000 + get_or quads 1 0 < 100_000_000
  pub low : get_or quads 2 0 * 10_000 + get_or quads 3 0 < 100_000_000
  pub value : (get_or quads 0 0 * 10_000 + get_or quads 1 0) * 100_000_000 + (get_or quads 2 0 * 10_000 + get_or quads 3 0) ≡ lane_value digits
  pub size : length (joined 10 digits) ≡ 8

pub sums : (xs : List ℕ) → length xs ≡ 16 → Each1 (λ x. x < 10) xs → AreSums (joined 100 (joined 10 xs)) xs
sums xs long low =
    one_by_one (λ ys. Each1 (λ x. x < 10) ys → AreSums (joined 100 (joined 10 ys)) ys)
    (λ a b c d e f g h i j k l m n o p. λ all. record { high = omega (arith, all); value = omega arith; low = omega (arith, all); size = refl }) xs long low
