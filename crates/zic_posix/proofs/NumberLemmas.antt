-- A number that is read is the number that is spelled, and what is spelled is read.
use Rattle.std.proofs.Common.{◌≡◌, ℕ, ◌<◌, ◌≤◌, min, ltb, leb, ◌&&◌, true, Some, List, [], ◌∷◌, ◌++◌, length, take, drop, All, refl, sym, ap, subst, arith}
use Rattle.std.specs.List.{prefix_len}
use Rattle.std.specs.List.{list_all}
use Rattle.std.proofs.lemmas.Bool.{leb-true, le-leb, lt-ltb, ltb-true, and_parts, and_from}
use Rattle.std.proofs.lemmas.List.{take_at, drop_at, take-append-drop, length-take-le}
use Rattle.std.proofs.lemmas.List.Sums.{prefix_len-le-length}
use Rattle.std.proofs.lemmas.List.Elements.{All-cons, All-head, All-nil, All-tail}
use Rattle.zic_base.specs.Number.{decimal_value, number}
use Rattle.std.specs.Char.{is_ascii_digit}
use Rattle.zic_posix.specs.Grammar.{SpellsNumber}
use Rattle.zic_posix.specs.code.Reading.{number_at}
use Rattle.zic_posix.proofs.Steps.{guard_some, NotFirst, BeginsWith}
use Rattle.zic_posix.proofs.FrontLemmas.{prefix_len_front, front_passes}

abbrev pub AreDigits : List ℕ → Type 0
AreDigits text = All (λ b. is_ascii_digit b ≡ true) text

-- a digit is a byte from 48 to 57
pub digit_range : (b : ℕ) → is_ascii_digit b ≡ true → (48 ≤ b) × (b ≤ 57)
digit_range b digit =
    let parts = and_parts (leb 48 b) (leb b 57) digit in
    (leb-true 48 b parts.0, leb-true b 57 parts.1)

-- a number in digits, with what its text has
pub record HasDigits (longest : ℕ) (text : List ℕ) (n : ℕ) : Type 0 where
  pub some : 1 ≤ length text
  pub short : length text ≤ longest
  pub digits : AreDigits text
  pub value : n ≡ decimal_value text

all_digits : (text : List ℕ) → list_all is_ascii_digit text ≡ true → AreDigits text
all_digits [] e = All-nil (λ b. is_ascii_digit b ≡ true)
all_digits (b ∷ text) e =
    let parts = and_parts (is_ascii_digit b) (list_all is_ascii_digit text) e in
    All-cons (λ b. is_ascii_digit b ≡ true) b text parts.0 (all_digits text parts.1)

digits_all : (text : List ℕ) → AreDigits text → list_all is_ascii_digit text ≡ true
digits_all [] digits = refl
digits_all (b ∷ text) digits =
    and_from (is_ascii_digit b) (list_all is_ascii_digit text) (All-head (λ b. is_ascii_digit b ≡ true) b text digits)
    (digits_all text (All-tail (λ b. is_ascii_digit b ≡ true) b text digits))

-- what a number is spelled by
pub number_has : (longest : ℕ) (text : List ℕ) (n : ℕ) → number longest text ≡ Some n → HasDigits longest text n
unfolding number
number_has longest text n e =
    let g = guard_some (leb 1 (length text) && leb (length text) longest && list_all is_ascii_digit text) (decimal_value text) n e in
    let (sizes, digits) = and_parts (leb 1 (length text) && leb (length text) longest) (list_all is_ascii_digit text) g.0 in
    let (some, short) = and_parts (leb 1 (length text)) (leb (length text) longest) sizes in
    record {
      some = leb-true 1 (length text) some;
      short = leb-true (length text) longest short;
      digits = all_digits text digits;
      value = sym g.1;
    }

-- and what spells it
pub number_by : (longest : ℕ) (text : List ℕ) (n : ℕ) → HasDigits longest text n → number longest text ≡ Some n
unfolding number
number_by longest text n has =
    rw (le-leb 1 (length text) has.some, le-leb (length text) longest has.short, digits_all text has.digits) (ap (λ (k : ℕ). Some k) (sym has.value))

-- two digits stand for a number below 100
pub decimal_small : (text : List ℕ) → length text ≤ 2 → AreDigits text → decimal_value text < 100
decimal_small [] short digits = omega arith
decimal_small (a ∷ []) short digits =
    let first = digit_range a (All-head (λ b. is_ascii_digit b ≡ true) a [] digits) in
    omega arith
decimal_small (a ∷ b ∷ []) short digits =
    let first = digit_range a (All-head (λ c. is_ascii_digit c ≡ true) a (b ∷ []) digits) in
    let second = digit_range b (All-head (λ c. is_ascii_digit c ≡ true) b [] (All-tail (λ c. is_ascii_digit c ≡ true) a (b ∷ []) digits)) in
    omega arith
decimal_small (a ∷ b ∷ c ∷ more) short digits = absurd (omega arith)

digits_front : (longest : ℕ) (text rest : List ℕ) → length text ≤ longest → AreDigits text → NotFirst is_ascii_digit rest → min (prefix_len is_ascii_digit (text ++ rest)) longest ≡ length text
digits_front longest text rest short digits ends =
    let front = prefix_len_front is_ascii_digit text rest digits ends in
    omega arith

-- what is spelled is read
pub number_again : (longest least most n : ℕ) (text rest : List ℕ) → SpellsNumber longest least most text n → NotFirst is_ascii_digit rest → number_at longest least most (text ++ rest) ≡ Some (n, rest)
unfolding number_at
number_again longest least most n text rest spells ends =
    let has = number_has longest text n spells.value in
    let some = lt-ltb 0 (length text) (omega (arith, has.some)) in
    let low = le-leb least (decimal_value text) (subst (λ (k : ℕ). least ≤ k) has.value spells.at_least) in
    let high = le-leb (decimal_value text) most (subst (λ (k : ℕ). k ≤ most) has.value spells.at_most) in
    rw (digits_front longest text rest has.short has.digits ends, take_at text rest (length text) refl, drop_at text rest (length text) refl, some, low, high) (ap (λ (k : ℕ). Some (k, rest)) (sym has.value))

-- what is read is spelled
pub number_takes : (longest least most : ℕ) (text : List ℕ) (n : ℕ) (rest : List ℕ) → number_at longest least most text ≡ Some (n, rest) → BeginsWith (λ digits. SpellsNumber longest least most digits n) text rest
unfolding number_at
number_takes longest least most text n rest e =
    let k = min (prefix_len is_ascii_digit text) longest in
    let v = decimal_value (take k text) in
    let g = guard_some (ltb 0 k && leb least v && leb v most) (v, drop k text) (n, rest) e in
    let tests = and_parts (ltb 0 k && leb least v) (leb v most) g.0 in
    let lower = and_parts (ltb 0 k) (leb least v) tests.0 in
    let some = ltb-true 0 k lower.0 in
    let within = prefix_len-le-length is_ascii_digit text in
    let long : length (take k text) ≡ k = length-take-le k text (omega arith) in
    subst (λ (p : ℕ × List ℕ). BeginsWith (λ digits. SpellsNumber longest least most digits p.0) text p.1) g.1
    (record {
      front = take k text;
      parts = sym (take-append-drop k text);
      spells = record {
        value = number_by longest (take k text) v (record {
          some = omega arith;
          short = omega arith;
          digits = front_passes is_ascii_digit text k (omega arith);
          value = refl;
        });
        at_least = leb-true least v lower.1;
        at_most = leb-true v most tests.1;
      };
    })
