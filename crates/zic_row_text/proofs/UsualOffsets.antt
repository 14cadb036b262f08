-- UT offsets in the usual form, as `+02:00`, at the end of a field.
use Rattle.std.proofs.Common.{◌≡◌, ◌∙◌, ◌≤◌, ℕ, ◌+◌, ◌-◌, ◌*◌, Bool, true, false, pos, neg_ℤ, List, [], ◌∷◌, ◌++◌, length, get_or, take, drop, ap, ap₂, arith, refl, sym, Some}
use Rattle.std.proofs.lemmas.Bool.Decides.{nat_tests}
use Rattle.std.proofs.lemmas.List.{get_or-drop, length-drop, length-take-le, take-append-drop}
use Rattle.std.proofs.lemmas.Option.{none-some}
use Rattle.std.specs.Char.{is_ascii_digit}
use Rattle.std.specs.Prelude.{option_map, slice_range}
use Rattle.zic_base.specs.Number.{number}
use Rattle.zic_row_text.specs.DateTime.{is_sign, is_zulu, offset_in, offset_place}
use Rattle.zic_row_text.proofs.OffsetPlaces.{at_sign}
use Rattle.zic_row_text.proofs.PairNumbers.{first_no_digit, pair_of, second_no_digit}
use Rattle.zic_row_text.proofs.ReadOffsets.{clock_size}

-- six bytes
six_are : (ys : List ℕ) → length ys ≡ 6 → ys ≡ get_or ys 0 0 ∷ get_or ys 1 0 ∷ get_or ys 2 0 ∷ get_or ys 3 0 ∷ get_or ys 4 0 ∷ get_or ys 5 0 ∷ []
six_are (a ∷ b ∷ c ∷ d ∷ e ∷ f ∷ []) long = refl
six_are ys long = absurd (omega (arith, long))

-- the bytes that end a field
last_six : (field : List ℕ) (place : ℕ) → length field ≡ place + 6
    → drop place field ≡ get_or field place 0 ∷ get_or field (place + 1) 0 ∷ get_or field (place + 1 + 1) 0 ∷ get_or field (place + 3) 0 ∷ get_or field (place + 4) 0 ∷ get_or field (place + 4 + 1) 0 ∷ []
last_six field place long =
    let cons = λ (m : ℕ) (l : List ℕ). m ∷ l in
    let none : place + 0 ≡ place = omega arith in
    let two : place + 2 ≡ place + 1 + 1 = omega arith in
    let five : place + 5 ≡ place + 4 + 1 = omega arith in
    let byte = λ (n : ℕ). get_or field n 0 in
    six_are (drop place field) (omega (arith, length-drop place field, long))
    ∙ ap₂ cons (get_or-drop place field 0 0 ∙ ap byte none) (ap₂ cons (get_or-drop place field 1 0) (ap₂ cons (get_or-drop place field 2 0 ∙ ap byte two)
    (ap₂ cons (get_or-drop place field 3 0) (ap₂ cons (get_or-drop place field 4 0) (ap₂ cons (get_or-drop place field 5 0 ∙ ap byte five) refl)))))

-- two bytes that are a number are digits
digit_one : (a b n : ℕ) → number 2 (a ∷ b ∷ []) ≡ Some n → is_ascii_digit a ≡ true
digit_one a b n is = by (is_ascii_digit a) refl where
  by : (x : Bool) → is_ascii_digit a ≡ x → is_ascii_digit a ≡ true
  by true e = e
  by false e = absurd (none-some n (sym (first_no_digit a b e) ∙ is))

digit_two : (a b n : ℕ) → number 2 (a ∷ b ∷ []) ≡ Some n → is_ascii_digit b ≡ true
digit_two a b n is = by (is_ascii_digit b) refl where
  by : (x : Bool) → is_ascii_digit b ≡ x → is_ascii_digit b ≡ true
  by true e = e
  by false e = absurd (none-some n (sym (second_no_digit a b e) ∙ is))

-- digits are no signs and no letters
no_sign : (x : ℕ) → is_ascii_digit x ≡ true → is_sign x ≡ false
no_sign x h = grind (arith, nat_tests, h)

no_letter : (x : ℕ) → is_ascii_digit x ≡ true → is_zulu x ≡ false
no_letter x h = grind (arith, nat_tests, h)

-- where such an offset begins
usual_place : (xs : List ℕ) (sign a b c d h m : ℕ) → is_sign sign ≡ true → number 2 (a ∷ b ∷ []) ≡ Some h → number 2 (c ∷ d ∷ []) ≡ Some m
    → offset_place (xs ++ sign ∷ a ∷ b ∷ 58 ∷ c ∷ d ∷ []) ≡ length xs
usual_place xs sign a b c d h m is hours minutes =
    at_sign xs sign (a ∷ b ∷ 58 ∷ c ∷ d ∷ []) is
    (rw (no_sign a (digit_one a b h hours), no_sign b (digit_two a b h hours), no_sign c (digit_one c d m minutes), no_sign d (digit_two c d m minutes)) refl)
    (no_letter d (digit_two c d m minutes))

-- and what it says
east : (a b c d h m : ℕ) → number 2 (a ∷ b ∷ []) ≡ Some h → number 2 (c ∷ d ∷ []) ≡ Some m → h ≤ 23 → m ≤ 59
    → offset_in (43 ∷ a ∷ b ∷ 58 ∷ c ∷ d ∷ []) ≡ Some (pos (h * 3600 + m * 60))
unfolding offset_in
east a b c d h m hours minutes few fewer = rw (hours, minutes) (clock_size h m 0 (h * 3600 + m * 60) few fewer (omega arith) (omega arith))

west : (a b c d h m : ℕ) → number 2 (a ∷ b ∷ []) ≡ Some h → number 2 (c ∷ d ∷ []) ≡ Some m → h ≤ 23 → m ≤ 59
    → offset_in (45 ∷ a ∷ b ∷ 58 ∷ c ∷ d ∷ []) ≡ Some (neg_ℤ (pos (h * 3600 + m * 60)))
unfolding offset_in
west a b c d h m hours minutes few fewer =
    rw (hours, minutes) (ap (option_map neg_ℤ) (clock_size h m 0 (h * 3600 + m * 60) few fewer (omega arith) (omega arith)))

-- A field that ends in such an offset, which begins there and has these hours and minutes.
pub record IsUsual (field : List ℕ) (sign h m : ℕ) : Type 0 where
  pub place : offset_place field ≡ length field - 6
  pub east : sign ≡ 43 → offset_in (drop (length field - 6) field) ≡ Some (pos (h * 3600 + m * 60))
  pub west : sign ≡ 45 → offset_in (drop (length field - 6) field) ≡ Some (neg_ℤ (pos (h * 3600 + m * 60)))

pub usual : (field : List ℕ) (place h m : ℕ) → (6 ≤ length field) × (place ≡ length field - 6) → is_sign (get_or field place 0) ≡ true → get_or field (place + 3) 0 ≡ 58
    → Some h ≡ number 2 (slice_range field (place + 1) (place + 1 + 2)) → Some m ≡ number 2 (slice_range field (place + 4) (place + 4 + 2)) → h ≤ 23 → m ≤ 59
    → IsUsual field (get_or field place 0) h m
usual field place h m (some, at) is colon hours minutes few fewer =
    let s = get_or field place 0 in
    let a = get_or field (place + 1) 0 in
    let b = get_or field (place + 1 + 1) 0 in
    let c = get_or field (place + 4) 0 in
    let d = get_or field (place + 4 + 1) 0 in
    let long : length field ≡ place + 6 = omega (arith, some, at) in
    let read = ap (λ (t : List ℕ). number 2 t) (sym (pair_of field (place + 1) (omega (arith, long)))) ∙ sym hours in
    let also = ap (λ (t : List ℕ). number 2 t) (sym (pair_of field (place + 4) (omega (arith, long)))) ∙ sym minutes in
    let end : drop place field ≡ s ∷ a ∷ b ∷ 58 ∷ c ∷ d ∷ [] = last_six field place long ∙ ap (λ (n : ℕ). s ∷ a ∷ b ∷ n ∷ c ∷ d ∷ []) colon in
    let whole : field ≡ take place field ++ s ∷ a ∷ b ∷ 58 ∷ c ∷ d ∷ [] = sym (take-append-drop place field) ∙ ap (λ (t : List ℕ). take place field ++ t) end in
    let rest : (sign : ℕ) → s ≡ sign → offset_in (drop (length field - 6) field) ≡ offset_in (sign ∷ a ∷ b ∷ 58 ∷ c ∷ d ∷ []) =
    λ sign e. ap (λ (n : ℕ). offset_in (drop n field)) (sym at) ∙ ap offset_in (end ∙ ap (λ (n : ℕ). n ∷ a ∷ b ∷ 58 ∷ c ∷ d ∷ []) e) in
    record {
      place = ap offset_place whole ∙ usual_place (take place field) s a b c d h m is read also ∙ length-take-le place field (omega (arith, long)) ∙ at;
      east = λ e. rest 43 e ∙ east a b c d h m read also few fewer;
      west = λ e. rest 45 e ∙ west a b c d h m read also few fewer;
    }

-- a sign that isn't `-`
pub is_plus : (x : ℕ) → is_sign x ≡ true → (x ≡ 45 → ⊥) → x ≡ 43
is_plus x is other = grind (arith, nat_tests, is, other)
