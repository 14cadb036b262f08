-- Local times of fields, and their texts.
use Rattle.std.proofs.Common.{◌≡◌, ◌∙◌, ◌+◌, ◌*◌, ◌/◌, ◌%◌, ◌^◌, ◌<◌, FitsSigned, unsigned_abs, w64, ℕ, ℤ, pos, negsuc, ◌+ℤ◌, ◌*ℤ◌, ◌-ℤ◌, List, [], ◌∷◌, ◌++◌, ap, append_assoc, arith, sym}
use Rattle.std.proofs.lemmas.Int.{fits_signed_from_abs, ints}
use Rattle.std.specs.Int.{w128}
use Rattle.zic_base.specs.Digits.{clock_text}
use Rattle.zic_calendar.specs.declared.civil_time.Civil.{Civil}
use Rattle.zic_calendar.specs.Calendar.{day_number, IsSupportedDay}
use Rattle.zic_calendar.proofs.DateLemmas.{supported_day}
use Rattle.zic_layouts.specs.declared.layout.Unit.{Unit}
use Rattle.zic_layouts.specs.declared.layout.Unit.TheVariants as unit
use Rattle.zic_row_text.specs.Count.{second_of, units_of_second}
use Rattle.zic_row_text.specs.DateTime.{civil_second}
use Rattle.zic_row_text.specs.Local.{IsLocalSecond, civil_of, local_time, second_at}
use Rattle.zic_row_text.specs.Row.{civil_text, date_text}
use Rattle.zic_row_text.specs.code.Civils.{IsCivil}
use Rattle.zic_row_text.specs.code.Cached.{cached_date}
use Rattle.zic_row_text.proofs.RowTexts.{day_at-counted, second_at-counted}

-- a civil time of these years is a second of them
pub local_second : (c : Civil) → IsCivil c → IsLocalSecond (civil_second c)
local_second c is =
    let day : IsSupportedDay (day_number c.year c.month c.day) = supported_day c.year c.month c.day (is.month, is.day) is.year in
    let clock : c.hour * 3600 + c.minute * 60 + c.second < 86_400 = omega (arith, is.hour, is.minute, is.second) in
    (omega (arith, ints, day.0, clock), omega (arith, ints, day.1, clock))

-- the whole second of a count that was made of it
pub second_counted : (u : Unit) (count second : ℤ) (n : ℕ) → count ≡ (second *ℤ pos (units_of_second u)) +ℤ pos n → n < units_of_second u → second_of u count ≡ second
second_counted unit.Second (pos a) second n e lt = omega (arith, ints)
second_counted unit.Second (negsuc a) second n e lt = omega (arith, ints)
second_counted unit.Millisecond (pos a) second n e lt = omega (arith, ints)
second_counted unit.Millisecond (negsuc a) second n e lt = omega (arith, ints)
second_counted unit.Microsecond (pos a) second n e lt = omega (arith, ints)
second_counted unit.Microsecond (negsuc a) second n e lt = omega (arith, ints)
second_counted unit.Nanosecond (pos a) second n e lt = omega (arith, ints)
second_counted unit.Nanosecond (negsuc a) second n e lt = omega (arith, ints)

-- a second of local time, in the parts in which it is appended, and what follows it
pub local_parts : (t : ℤ) (more : List ℕ) (seconds : ℕ) → pos seconds ≡ t +ℤ pos (719_162 * 86_400)
    → cached_date (seconds / 86_400) ++ (clock_text (seconds % 86_400) ++ more) ≡ civil_text (local_time t) ++ more
unfolding local_time cached_date
local_parts t more seconds counted =
    let second = seconds % 86_400 in
    let at = pos (seconds / 86_400) -ℤ pos 719_162 in
    let P : ℤ → ℕ → List ℕ = λ d s. civil_text (civil_of d s) ++ more in
    let here : P at second ≡ (date_text (civil_of at 0) ++ 84 ∷ []) ++ (clock_text second ++ more) = simp append_assoc in
    sym (ap (λ (d : ℤ). P d (second_at t)) (day_at-counted t seconds (sym counted)) ∙ ap (λ (s : ℕ). P at s) (second_at-counted t seconds (sym counted)) ∙ here)

-- a second of local time fits
pub local_second_fits : (t : ℤ) → IsLocalSecond t → FitsSigned w64 t × FitsSigned w128 t
local_second_fits t is =
    let near : unsigned_abs t < 2 ^ 63 = omega (arith, ints, is.0, is.1) in
    let nearer : unsigned_abs t < 2 ^ 127 = omega (arith, ints, is.0, is.1) in
    (fits_signed_from_abs w64 t near, fits_signed_from_abs w128 t nearer)
