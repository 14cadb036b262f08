-- Digits read again.
use Rattle.std.proofs.Common.{◌≡◌, ◌∙◌, ℕ, ◌+◌, ◌-◌, ◌*◌, ◌/◌, ◌%◌, ◌<◌, ◌≤◌, true, List, ◌++◌, length, fold, ap, refl, arith, Some}
use Rattle.std.proofs.lemmas.Bool.{le-leb}
use Rattle.std.proofs.lemmas.Bool.Decides.{nat_tests}
use Rattle.std.proofs.lemmas.List.Folds.{list_all-append}
use Rattle.std.proofs.lemmas.List.Sums.{fold-append}
use Rattle.std.specs.Char.{is_ascii_digit}
use Rattle.std.specs.List.{list_all}
use Rattle.zic_base.specs.Digits.{two_digits}
use Rattle.zic_base.specs.Number.{number}
use Rattle.zic_row_text.specs.Count.{three_digits}
use Rattle.zic_row_text.specs.Row.{four_digits}

is_digit : (n : ℕ) → n < 10 → is_ascii_digit (48 + n) ≡ true
is_digit n h = grind (arith, nat_tests, h)

-- These are digits, and after those of a number m they spell so many times m and this number.
pub record Spells (ds : List ℕ) (scale n : ℕ) : Type 0 where
  pub digits : list_all is_ascii_digit ds ≡ true
  pub value : (m : ℕ) → fold (λ (n digit : ℕ). 10 * n + (digit - 48)) m ds ≡ scale * m + n

pub two_spell : (n : ℕ) → n < 100 → Spells (two_digits n) 100 n
two_spell n h = record {
  digits = rw (is_digit (n / 10) (omega arith), is_digit (n % 10) (omega arith)) refl;
  value = λ m. omega arith;
}

pub three_spell : (n : ℕ) → n < 1000 → Spells (three_digits n) 1000 n
three_spell n h = record {
  digits = rw (is_digit (n / 100) (omega arith), is_digit (n % 100 / 10) (omega arith), is_digit (n % 100 % 10) (omega arith)) refl;
  value = λ m. omega arith;
}

-- digits after digits
pub spell_append : (xs ys : List ℕ) (s t n k : ℕ) → Spells xs s n → Spells ys t k → Spells (xs ++ ys) (t * s) (t * n + k)
spell_append xs ys s t n k first last = record {
  digits = list_all-append is_ascii_digit xs ys ∙ rw (first.digits, last.digits) refl;
  value = λ m. fold-append (λ (n digit : ℕ). 10 * n + (digit - 48)) m xs ys ∙ rw (first.value m, last.value (s * m + n)) (omega arith);
}

-- digits that are read as their number
pub spelled : (ds : List ℕ) (most s n : ℕ) → Spells ds s n → 1 ≤ length ds → length ds ≤ most → number most ds ≡ Some n
unfolding number
spelled ds most s n is some few =
    let first : s * 0 + n ≡ n = omega arith in
    rw (le-leb 1 (length ds) some, le-leb (length ds) most few, is.digits) (ap Some (is.value 0 ∙ first))

-- numbers of two to four digits
pub two_read : (n : ℕ) → n < 100 → number 2 (two_digits n) ≡ Some n
two_read n h = spelled (two_digits n) 2 100 n (two_spell n h) (omega arith) (omega arith)

pub three_read : (n : ℕ) → n < 1000 → number 3 (three_digits n) ≡ Some n
three_read n h = spelled (three_digits n) 3 1000 n (three_spell n h) (omega arith) (omega arith)

pub four_read : (n : ℕ) → n < 10_000 → number 4 (four_digits n) ≡ Some n
four_read n h =
    let is = spell_append (two_digits (n / 100)) (two_digits (n % 100)) 100 100 _ _ (two_spell (n / 100) (omega arith)) (two_spell (n % 100) (omega arith)) in
    spelled (four_digits n) 4 _ _ is (omega arith) (omega arith) ∙ ap Some (omega arith)
