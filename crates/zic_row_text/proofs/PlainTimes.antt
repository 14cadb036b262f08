-- Times in plain decimals.
use Rattle.std.proofs.Common.{◌≡◌, ℕ, suc, ◌+◌, ◌-◌, ◌/◌, ◌%◌, ◌<◌, ◌≤◌, Bool, true, false, List, [], ◌∷◌, length, get_or, refl, sym, ap, ◌∙◌, arith, pos, negsuc, Some}
use Rattle.std.proofs.lemmas.Int.{ints}
use Rattle.std.proofs.lemmas.Bool.{and_parts}
use Rattle.std.proofs.lemmas.Bool.Decides.{nat_tests}
use Rattle.std.specs.Prelude.{nat_le, ◌&&◌, if◌then◌else◌, None}
use Rattle.std.specs.Char.{is_ascii_digit}
use Rattle.std.specs.List.{list_all}
use Rattle.std.specs.Fmt.{decimal}
use Rattle.zic_layouts.specs.declared.layout.Unit.{Unit}
use Rattle.zic_row_text.specs.Count.{count_of, fraction_digits, units_of_second}
use Rattle.zic_base.specs.Number.{decimal_value, is_negative, number}
use Rattle.zic_row_text.specs.PlainTime.{IsPlainTime}
use Rattle.zic_row_text.specs.code.PlainNumber.{IsPlainNumber}
use Rattle.zic_row_text.proofs.PlainInstants.{plain_if, read_number}

-- a text within two bounds is the same number by each
number_within : (a b : ℕ) (text : List ℕ) → length text ≤ a → length text ≤ b → number a text ≡ number b text
unfolding number
number_within a b text short few =
    let one : nat_le (length text) a ≡ true = grind (arith, nat_tests, short) in
    let two : nat_le (length text) b ≡ true = grind (arith, nat_tests, few) in
    let N = λ (t : Bool). if nat_le 1 (length text) && t && list_all is_ascii_digit text then Some (decimal_value text) else None in
    ap N (one ∙ sym two)

-- a number that was read has no more digits than were asked for
number_few : (most : ℕ) (text : List ℕ) (n : ℕ) → number most text ≡ Some n → length text ≤ most
unfolding number
number_few most text n read = grind (arith, nat_tests, read)

-- digits that were read, with no zero in front
pub plain_number_is : (u : Unit) (most : ℕ) (digits : List ℕ) (n : ℕ) → most ≤ 19 → most ≤ 18 + fraction_digits u → number most digits ≡ Some n
    → (get_or digits 0 0 ≡ 48 → length digits ≤ 1) → IsPlainNumber u digits n
plain_number_is u most digits n bound enough read first =
    let few = number_few most digits n read in
    let are = read_number most digits n bound read in
    record {
      says = number_within (18 + fraction_digits u) most digits (omega (arith, few, enough)) few ∙ read;
      plain = plain_if digits n are (λ zero_first. omega (arith, are.some, first zero_first));
    }

-- nor anything but digits
number_digits : (most : ℕ) (text : List ℕ) (n : ℕ) → number most text ≡ Some n → list_all is_ascii_digit text ≡ true
unfolding number
number_digits most text n read = grind (arith, nat_tests, read)

-- digits begin with no `-`
not_negative : (digits : List ℕ) → list_all is_ascii_digit digits ≡ true → is_negative digits ≡ false
not_negative [] all = refl
not_negative (byte ∷ digits) all =
    let (first, rest) = and_parts (is_ascii_digit byte) (list_all is_ascii_digit digits) all in
    grind (arith, nat_tests, first)

-- a time from 1970 on
pub time_from_is : (u : Unit) (digits : List ℕ) (n seconds fraction : ℕ) → IsPlainNumber u digits n → seconds ≡ n / units_of_second u → fraction ≡ n % units_of_second u → seconds ≤ 253_402_214_399
    → IsPlainTime u digits (record { second = pos seconds; fraction = fraction; unit = u })
unfolding count_of
time_from_is u digits n seconds fraction is of_seconds of_fraction may = record {
  count = pos n;
  says = rw (not_negative digits (number_digits _ digits n is.says), is.says) refl;
  plain = is.plain;
  may = (omega (arith, ints), omega (arith, ints, of_seconds, may));
  second = ap pos of_seconds;
  fraction = of_fraction;
  unit = refl;
}

-- a time before 1970
pub time_before_is : (u : Unit) (digits : List ℕ) (n before seconds fraction : ℕ) → IsPlainNumber u digits n → n ≡ suc before → seconds ≡ before / units_of_second u → fraction ≡ before % units_of_second u
    → seconds < 62_135_510_400 → IsPlainTime u (45 ∷ digits) (record { second = negsuc seconds; fraction = units_of_second u - 1 - fraction; unit = u })
unfolding count_of
time_before_is u digits n before seconds fraction is of_before of_seconds of_fraction may = record {
  count = negsuc before;
  says = rw (is.says, of_before) refl;
  plain = ap (λ (l : List ℕ). 45 ∷ l) (is.plain ∙ ap decimal of_before);
  may = (omega (arith, ints, of_seconds, may), omega (arith, ints));
  second = ap negsuc of_seconds;
  fraction = ap (λ (r : ℕ). units_of_second u - 1 - r) of_fraction;
  unit = refl;
}
