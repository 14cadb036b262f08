-- Counts of seconds, and the parts of a row of a count.
use Rattle.std.proofs.Common.{◌≡◌, ℕ, ◌*◌, ◌/◌, ◌%◌, ◌^◌, ◌<◌, FitsSigned, unsigned_abs, w64, List, ◌∷◌, ◌++◌, ℤ, pos, negsuc, ◌+ℤ◌, refl, ap, arith}
use Rattle.std.proofs.Math.Nat.{div-one}
use Rattle.std.proofs.lemmas.Int.{fits_signed_from_abs, ints}
use Rattle.std.specs.Int.{w128}
use Rattle.zic_base.specs.State.{Shown}
use Rattle.zic_base.specs.Digits.{clock_text}
use Rattle.zic_layouts.specs.declared.layout.Style.{Style}
use Rattle.zic_layouts.specs.declared.layout.Unit.{Unit}
use Rattle.zic_layouts.specs.declared.layout.Unit.TheVariants as unit
use Rattle.zic_row_text.specs.Instant.{IsRowInstant, instant_of}
use Rattle.zic_row_text.specs.Row.{rest_text, row_text, styled_text}
use Rattle.zic_row_text.specs.code.Cached.{cached_date}
use Rattle.zic_row_text.specs.Count.{count_of, counted_rest_text, counted_row_text, fraction_text, second_of, timed_rest_text}
use Rattle.zic_row_text.proofs.RowTexts.{local_cached}

-- the whole second of a count of seconds
pub second_one : (t : ℤ) → second_of unit.Second t ≡ t
second_one (pos n) = ap pos (div-one n)
second_one (negsuc n) = ap negsuc (div-one n)

-- a count of seconds is an instant
pub count_seconds : (field : List ℕ) → count_of unit.Second field ≡ instant_of field
unfolding count_of instant_of
count_seconds field = refl

-- and its row that of the instant
pub counted_seconds : (name : List ℕ) (t : ℤ) (s : Shown) → counted_row_text unit.Second name t s ≡ row_text name t s
unfolding counted_row_text counted_rest_text timed_rest_text row_text rest_text
counted_seconds name t s = rw (second_one t) refl

-- what follows a count, by the date that is kept
pub timed_rest_cached : (d : ℕ) (style : Style) (u : Unit) (t : ℤ) (n : ℕ) (s : Shown) (seconds day : ℕ) → pos seconds ≡ t +ℤ s.offset +ℤ pos (719_162 * 86_400) → day ≡ seconds / 86_400
    → d ∷ (cached_date day ++ (clock_text (seconds % 86_400) ++ (fraction_text u n ++ styled_text d style s))) ≡ timed_rest_text d style u t n s
unfolding timed_rest_text
timed_rest_cached d style u t n s seconds day counted of_day =
    ap (λ (l : List ℕ). d ∷ l) (local_cached t s.offset seconds day (fraction_text u n ++ styled_text d style s) counted of_day)

-- a second that a row may have fits
pub row_second_fits : (t : ℤ) → IsRowInstant t → FitsSigned w64 t × FitsSigned w128 t
row_second_fits t may =
    let near : unsigned_abs t < 2 ^ 63 = omega (arith, ints, may.0, may.1) in
    let nearer : unsigned_abs t < 2 ^ 127 = omega (arith, ints, may.0, may.1) in
    (fits_signed_from_abs w64 t near, fits_signed_from_abs w128 t nearer)
