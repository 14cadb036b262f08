-- Which fields are the plain decimals of their instants.
use Rattle.std.proofs.Common.{◌≡◌, ℕ, ◌+◌, ◌-◌, ◌*◌, ◌^◌, ◌<◌, ◌≤◌, Bool, true, false, ◌&&◌, List, length, get_or, refl, sym, ap, ◌∙◌, subst, arith, Some, None, fold, rules}
use Rattle.std.specs.Prelude.{IfSome, nat_le, if◌then◌else◌}
use Rattle.std.specs.Char.{is_ascii_digit}
use Rattle.std.specs.Fmt.{decimal}
use Rattle.std.specs.List.{list_all}
use Rattle.std.proofs.lemmas.Bool.{and_parts, leb-true}
use Rattle.std.proofs.lemmas.Fmt.{decimal-digits_value}
use Rattle.std.proofs.lemmas.Str.Parse.{IsNumeralModel, numerals_by_fold, digits_value_short}
use Rattle.zic_base.specs.Number.{decimal_value, number}

own : IsNumeralModel (λ (ds : List ℕ). list_all is_ascii_digit ds ≡ true) (fold (λ (n digit : ℕ). 10 * n + (digit - 48)) 0)
own = numerals_by_fold (λ (ds : List ℕ). list_all is_ascii_digit ds ≡ true) (search rules) (fold (λ (n digit : ℕ). 10 * n + (digit - 48))) (search rules)

-- the digits of a number
pub record AreDigits (ds : List ℕ) (n : ℕ) : Type 0 where
  pub some : 1 ≤ length ds
  pub few : length ds ≤ 19
  pub digits : list_all is_ascii_digit ds ≡ true
  pub value : n ≡ decimal_value ds
  pub fits : n < 2 ^ 64

-- what holds of the number of digits, holds of the number of a text, if it has one
on_number : (P : ℕ → Type 0) (most : ℕ) (ds : List ℕ) → most ≤ 19 → ((n : ℕ) → AreDigits ds n → P n) → IfSome (number most ds) P
unfolding number
on_number P most ds bound h =
    let test = nat_le 1 (length ds) && nat_le (length ds) most && list_all is_ascii_digit ds in
    let Q : Bool → Type 0 = λ b. test ≡ b → IfSome (if b then Some (decimal_value ds) else None) P in
    let at : (b : Bool) → Q b = λ b. elim b as Q [
      | true ↦ λ e.
          let (lengths, digits) = and_parts (nat_le 1 (length ds) && nat_le (length ds) most) (list_all is_ascii_digit ds) e in
          let (some, within) = and_parts (nat_le 1 (length ds)) (nat_le (length ds) most) lengths in
          let few : length ds ≤ 19 = omega (arith, bound, leb-true (length ds) most within) in
          let small : decimal_value ds < 10 ^ 19 = digits_value_short own ds 19 digits few in
          h (decimal_value ds) (record { some = leb-true 1 (length ds) some; few = few; digits = digits; value = refl; fits = omega (arith, small) })
      | false ↦ λ e. tt
    ] in
    at test refl

-- a number that was read
pub read_number : (most : ℕ) (ds : List ℕ) (n : ℕ) → most ≤ 19 → number most ds ≡ Some n → AreDigits ds n
read_number most ds n bound read = (rw read at (on_number (λ m. m ≡ n → AreDigits ds n) most ds bound (λ m h e. rw (← e) h))) refl

-- digits that begin with no zero, or are one, are the plain ones
pub plain_if : (ds : List ℕ) (n : ℕ) → AreDigits ds n → (get_or ds 0 0 ≡ 48 → length ds ≡ 1) → ds ≡ decimal n
plain_if ds n h first =
    sym (ap decimal h.value ∙ decimal-digits_value own ds h.digits (omega (arith, h.some)) first (subst (λ (m : ℕ). m < 2 ^ 64) h.value h.fits))
