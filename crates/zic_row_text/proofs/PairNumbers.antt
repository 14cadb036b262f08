-- Numbers of two and of four digits.
use Rattle.std.proofs.Common.{◌≡◌, ◌∙◌, ◌≤◌, ℕ, suc, ◌+◌, ◌-◌, ◌*◌, Bool, true, false, ◌&&◌, List, [], ◌∷◌, length, get_or, take, drop, ap, ap₂, arith, refl, sym, Some}
use Rattle.std.proofs.Math.Seq.{drop-cons}
use Rattle.std.proofs.lemmas.List.{drop-drop, length-drop}
use Rattle.std.specs.Char.{is_ascii_digit}
use Rattle.std.specs.Prelude.{Option, None, if◌then◌else◌, slice_range}
use Rattle.zic_base.specs.Number.{decimal_value, number}

-- two bytes of a text
pub pair_of : (text : List ℕ) (at : ℕ) → at + 2 ≤ length text → slice_range text at (at + 2) ≡ get_or text at 0 ∷ get_or text (at + 1) 0 ∷ []
pair_of text at long =
    let size : at + 2 - at ≡ 2 = omega arith in
    let next : suc at ≡ at + 1 = omega arith in
    let rest : drop at text ≡ get_or text at 0 ∷ get_or text (at + 1) 0 ∷ drop (suc (at + 1)) text =
    drop-cons text at 0 (omega arith) ∙ ap (λ (t : List ℕ). get_or text at 0 ∷ t) (ap (λ (n : ℕ). drop n text) next ∙ drop-cons text (at + 1) 0 (omega arith)) in
    ap (λ (n : ℕ). take n (drop at text)) size ∙ ap (λ (t : List ℕ). take 2 t) rest

-- digits spell a number
pub pair_read : (a b : ℕ) → is_ascii_digit a ≡ true → is_ascii_digit b ≡ true → number 2 (a ∷ b ∷ []) ≡ Some (10 * (a - 48) + (b - 48))
unfolding number
pair_read a b first last = rw (first, last) (ap Some (omega arith))

-- other bytes don't
pub first_no_digit : (a b : ℕ) → is_ascii_digit a ≡ false → number 2 (a ∷ b ∷ []) ≡ None
unfolding number
first_no_digit a b first = rw first refl

pub second_no_digit : (a b : ℕ) → is_ascii_digit b ≡ false → number 2 (a ∷ b ∷ []) ≡ None
unfolding number
second_no_digit a b last = rw last (by (is_ascii_digit a)) where
  by : (x : Bool) → (if x && (false && true) then Some (decimal_value (a ∷ b ∷ [])) else None) ≡ None
  by true = refl
  by false = refl

-- the number of two digits and of two that follow
abbrev pub joined_numbers : Option ℕ → Option ℕ → Option ℕ
joined_numbers (Some first) (Some last) = Some (100 * first + last)
joined_numbers _ _ = None

by_digits : (p q r s : Bool) (all first last : ℕ) → all ≡ 100 * first + last
    → (if p && (q && (r && (s && true))) then Some all else None) ≡ joined_numbers (if p && (q && true) then Some first else None) (if r && (s && true) then Some last else None)
by_digits true true true true all first last same = ap Some same
by_digits true true true false all first last same = refl
by_digits true true false s all first last same = refl
by_digits true false r s all first last same = refl
by_digits false q r s all first last same = refl

four_are : (a b c d : ℕ) → number 4 (a ∷ b ∷ c ∷ d ∷ []) ≡ joined_numbers (number 2 (a ∷ b ∷ [])) (number 2 (c ∷ d ∷ []))
unfolding number
four_are a b c d = by_digits (is_ascii_digit a) (is_ascii_digit b) (is_ascii_digit c) (is_ascii_digit d) _ _ _ (omega arith)

first_four : (text : List ℕ) → 4 ≤ length text → number 4 (take 4 text) ≡ joined_numbers (number 2 (take 2 text)) (number 2 (take 2 (drop 2 text)))
first_four (a ∷ b ∷ c ∷ d ∷ text) long = four_are a b c d
first_four text long = absurd (omega (arith, long))

-- four digits of a text
pub quad_of : (text : List ℕ) (at : ℕ) → at + 4 ≤ length text
    → number 4 (slice_range text at (at + 4)) ≡ joined_numbers (number 2 (slice_range text at (at + 2))) (number 2 (slice_range text (at + 2) (at + 2 + 2)))
quad_of text at long =
    let four : at + 4 - at ≡ 4 = omega arith in
    let two : at + 2 - at ≡ 2 = omega arith in
    let more : at + 2 + 2 - (at + 2) ≡ 2 = omega arith in
    ap (λ (n : ℕ). number 4 (take n (drop at text))) four ∙ first_four (drop at text) (omega (arith, length-drop at text))
    ∙ ap₂ joined_numbers (ap (λ (n : ℕ). number 2 (take n (drop at text))) (sym two))
    (ap (λ (t : List ℕ). number 2 (take 2 t)) (drop-drop 2 at text) ∙ ap (λ (n : ℕ). number 2 (take n (drop (at + 2) text))) (sym more))
