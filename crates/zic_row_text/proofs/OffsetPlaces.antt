-- Where the UT offset of a field begins.
use Rattle.std.proofs.Common.{◌≡◌, ◌∙◌, ◌≤◌, ◌<◌, ℕ, suc, ◌+◌, ◌-◌, ◌/◌, ◌%◌, Bool, true, false, not, ℤ, pos, List, ◌∷◌, ◌++◌, length, length-append, get_or, take, ap, arith, refl, []}
use Rattle.std.proofs.Math.Seq.{get_or-append_right, get_or-append_seam, take-append_seam}
use Rattle.std.proofs.lemmas.Bool.Decides.{nat_tests}
use Rattle.std.proofs.lemmas.List.Sums.{AllPass-from_list_all, suffix_len_is}
use Rattle.std.specs.Prelude.{◌==◌, if◌then◌else◌, int_lt, unsigned_abs}
use Rattle.std.specs.List.{before_last, list_all, suffix_len}
use Rattle.zic_base.specs.Digits.{clock_text, offset_text}
use Rattle.zic_row_text.specs.DateTime.{is_sign, is_zulu, offset_place}
use Rattle.zic_row_text.specs.Row.{iso_offset_text}

-- the last sign is the one with no other after it
before_sign : (xs : List ℕ) (sign : ℕ) (ys : List ℕ) → is_sign sign ≡ true → list_all (λ byte. not (is_sign byte)) ys ≡ true → before_last is_sign (xs ++ sign ∷ ys) ≡ xs
before_sign xs sign ys is none =
    let field = xs ++ sign ∷ ys in
    let all = AllPass-from_list_all (λ byte. not (is_sign byte)) ys none in
    let long = length-append xs (sign ∷ ys) in
    let at_sign : length xs + 1 - 1 ≡ length xs = omega arith in
    let here : not (is_sign (get_or field (length xs + 1 - 1) 0)) ≡ false = ap (λ (n : ℕ). not (is_sign (get_or field n 0))) at_sign ∙ ap (λ (byte : ℕ). not (is_sign byte)) (get_or-append_seam xs sign ys 0) ∙ ap not is in
    let later : (k : ℕ) → length xs + 1 ≤ k → k < length field → not (is_sign (get_or field k 0)) ≡ true = λ k after within.
    let next : k - length xs ≡ suc (k - length xs - 1) = omega (arith, after) in
    ap (λ (byte : ℕ). not (is_sign byte)) (get_or-append_right xs (sign ∷ ys) k 0 (omega (arith, after)) ∙ ap (λ (n : ℕ). get_or (sign ∷ ys) n 0) next)
    ∙ all (k - length xs - 1) 0 (omega (arith, long, after, within)) in
    let rest = suffix_len_is (λ byte. not (is_sign byte)) field (length xs + 1) 0 (omega (arith, long)) later (λ some. here) in
    let place : length field - suffix_len (λ byte. not (is_sign byte)) field - 1 ≡ length xs = omega (arith, long, rest) in
    ap (λ (n : ℕ). take n field) place ∙ take-append_seam xs (sign ∷ ys)

-- where a field ends in no letter for UT, the offset begins at that sign
pub at_sign : (xs : List ℕ) (sign : ℕ) (ys : List ℕ) → is_sign sign ≡ true → list_all (λ byte. not (is_sign byte)) ys ≡ true → is_zulu (get_or (sign ∷ ys) (length ys) 0) ≡ false
    → offset_place (xs ++ sign ∷ ys) ≡ length xs
at_sign xs sign ys is none end =
    let field = xs ++ sign ∷ ys in
    let long = length-append xs (sign ∷ ys) in
    let last : length field - 1 - length xs ≡ length ys = omega (arith, long) in
    let byte : get_or field (length field - 1) 0 ≡ get_or (sign ∷ ys) (length ys) 0 = get_or-append_right xs (sign ∷ ys) (length field - 1) 0 (omega (arith, long)) ∙ ap (λ (n : ℕ). get_or (sign ∷ ys) n 0) last in
    ap (λ (b : Bool). if b then length field - 1 else length (before_last is_sign field)) (ap is_zulu byte ∙ end) ∙ ap length (before_sign xs sign ys is none)

-- digits are no signs and no letters
no_sign : (n : ℕ) → is_sign (48 + n) ≡ false
no_sign n = grind (arith, nat_tests)

no_letter : (n : ℕ) → n < 10 → is_zulu (48 + n) ≡ false
no_letter n h = grind (arith, nat_tests, h)

sign_is : (negative : Bool) → is_sign (if negative then 45 else 43) ≡ true
sign_is true = refl
sign_is false = refl

-- the offset of a field that ends in one
pub place_of_offset : (xs : List ℕ) (offset : ℤ) → offset_place (xs ++ iso_offset_text offset) ≡ length xs
place_of_offset xs offset = by (unsigned_abs offset % 60 == 0) where
  n : ℕ
  n = unsigned_abs offset

  sign : ℕ
  sign = if int_lt offset (pos 0) then 45 else 43

  by : (even : Bool) → offset_place (xs ++ (if even then take 6 (offset_text offset) else offset_text offset)) ≡ length xs
  by true =
      at_sign xs sign (take 5 (clock_text n)) (sign_is (int_lt offset (pos 0)))
      (rw (no_sign (n / 3600 / 10), no_sign (n / 3600 % 10), no_sign (n / 60 % 60 / 10), no_sign (n / 60 % 60 % 10)) refl)
      (no_letter (n / 60 % 60 % 10) (omega arith))
  by false =
      at_sign xs sign (clock_text n) (sign_is (int_lt offset (pos 0)))
      (rw (no_sign (n / 3600 / 10), no_sign (n / 3600 % 10), no_sign (n / 60 % 60 / 10), no_sign (n / 60 % 60 % 10), no_sign (n % 60 / 10), no_sign (n % 60 % 10)) refl)
      (no_letter (n % 60 % 10) (omega arith))

-- and that of a field that ends in a letter for UT
pub place_of_ut : (xs : List ℕ) → offset_place (xs ++ 90 ∷ []) ≡ length xs
place_of_ut xs =
    let field = xs ++ 90 ∷ [] in
    let long = length-append xs (90 ∷ []) in
    let last : length field - 1 ≡ length xs = omega (arith, long) in
    let first : length field - 1 - length xs ≡ 0 = omega (arith, long) in
    let byte : get_or field (length field - 1) 0 ≡ 90 = get_or-append_right xs (90 ∷ []) (length field - 1) 0 (omega (arith, long)) ∙ ap (λ (n : ℕ). get_or (90 ∷ []) n 0) first in
    ap (λ (b : Bool). if b then length field - 1 else length (before_last is_sign field)) (ap is_zulu byte) ∙ last
