-- Fractions of seconds, read again.
use Rattle.std.proofs.Common.{◌≡◌, ◌∙◌, ℕ, ◌/◌, ◌%◌, ◌<◌, ◌++◌, ap, arith, Some}
use Rattle.std.proofs.lemmas.Bool.Decides.{nat_tests}
use Rattle.zic_base.specs.Number.{number}
use Rattle.zic_layouts.specs.declared.layout.Unit.{Unit}
use Rattle.zic_layouts.specs.declared.layout.Unit.TheVariants as unit
use Rattle.zic_row_text.specs.Count.{fraction_in, fraction_text, three_digits, units_of_second, whole_units}
use Rattle.zic_row_text.proofs.ReadDigits.{spell_append, spelled, three_read, three_spell}

-- parts of a second that are the units
whole_is : (u : Unit) (n : ℕ) → whole_units u (units_of_second u) (Some n) ≡ Some n
whole_is unit.Second n = grind (arith, nat_tests)
whole_is unit.Millisecond n = grind (arith, nat_tests)
whole_is unit.Microsecond n = grind (arith, nat_tests)
whole_is unit.Nanosecond n = grind (arith, nat_tests)

-- six and nine digits
six_read : (n : ℕ) → n < 1_000_000 → number 6 (three_digits (n / 1000) ++ three_digits (n % 1000)) ≡ Some n
six_read n h =
    let is = spell_append (three_digits (n / 1000)) (three_digits (n % 1000)) 1000 1000 _ _ (three_spell (n / 1000) (omega arith)) (three_spell (n % 1000) (omega arith)) in
    spelled _ 6 _ _ is (omega arith) (omega arith) ∙ ap Some (omega arith)

nine_read : (n : ℕ) → n < 1_000_000_000 → number 9 (three_digits (n / 1_000_000) ++ three_digits (n / 1000 % 1000) ++ three_digits (n % 1000)) ≡ Some n
nine_read n h =
    let first = three_spell (n / 1_000_000) (omega arith) in
    let middle = three_spell (n / 1000 % 1000) (omega arith) in
    let last = three_spell (n % 1000) (omega arith) in
    let rest = spell_append (three_digits (n / 1000 % 1000)) (three_digits (n % 1000)) 1000 1000 _ _ middle last in
    let is = spell_append (three_digits (n / 1_000_000)) (three_digits (n / 1000 % 1000) ++ three_digits (n % 1000)) 1000 1_000_000 _ _ first rest in
    spelled _ 9 _ _ is (omega arith) (omega arith) ∙ ap Some (omega arith)

-- so many units of a second are read as their number
pub fraction_read : (u : Unit) (n : ℕ) → n < units_of_second u → fraction_in u (fraction_text u n) ≡ Some n
unfolding fraction_in
fraction_read unit.Second n h = ap Some (omega arith)
fraction_read unit.Millisecond n h = ap (whole_units unit.Millisecond 1000) (three_read n h) ∙ whole_is unit.Millisecond n
fraction_read unit.Microsecond n h = ap (whole_units unit.Microsecond 1_000_000) (six_read n h) ∙ whole_is unit.Microsecond n
fraction_read unit.Nanosecond n h = ap (whole_units unit.Nanosecond 1_000_000_000) (nine_read n h) ∙ whole_is unit.Nanosecond n
