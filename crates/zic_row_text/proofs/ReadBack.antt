-- Times that rows have are read as the same counts.
use Rattle.std.proofs.Common.{◌≡◌, ◌∙◌, ◌<◌, ℕ, ℤ, pos, negsuc, ◌+ℤ◌, ◌-ℤ◌, ◌*ℤ◌, List, [], ◌∷◌, ◌++◌, take, drop, append_assoc, ap, ap₂, arith, refl, sym, Some}
use Rattle.std.proofs.Math.Seq.{drop-append_seam, take-append_seam}
use Rattle.std.proofs.lemmas.Int.{ints}
use Rattle.std.specs.Prelude.{Option, option_map, unsigned_abs}
use Rattle.zic_calendar.specs.declared.civil_time.Civil.{Civil}
use Rattle.zic_layouts.specs.declared.layout.Unit.{Unit}
use Rattle.zic_layouts.specs.declared.layout.Unit.TheVariants as unit
use Rattle.zic_row_text.specs.Count.{fraction_in, fraction_of, fraction_text, local_count_text, second_of, units_of_second}
use Rattle.zic_row_text.specs.DateTime.{civil_second, counted, less_offset, local_count_of, offset_in, rfc3339_count_of, second_in}
use Rattle.zic_row_text.specs.Instant.{IsRowInstant}
use Rattle.zic_row_text.specs.Local.{IsLocalSecond, local_time}
use Rattle.zic_row_text.specs.ReadBack.{IsoIsReadBack, LocalIsReadBack, UtcIsReadBack}
use Rattle.zic_row_text.specs.Row.{civil_text, iso_offset_text, local_text}
use Rattle.zic_row_text.proofs.OffsetPlaces.{place_of_offset, place_of_ut}
use Rattle.zic_row_text.proofs.ReadDates.{civil_read, local_civil, local_time_second}
use Rattle.zic_row_text.proofs.ReadFractions.{fraction_read}
use Rattle.zic_row_text.proofs.ReadOffsets.{offset_read, ut_read}

-- a count is its whole second and its units after that
count_parts : (u : Unit) (count : ℤ) → (fraction_of u count < units_of_second u) × ((second_of u count *ℤ pos (units_of_second u)) +ℤ pos (fraction_of u count) ≡ count)
count_parts unit.Second (pos a) = (omega arith, omega (arith, ints))
count_parts unit.Second (negsuc a) = (omega arith, omega (arith, ints))
count_parts unit.Millisecond (pos a) = (omega arith, omega (arith, ints))
count_parts unit.Millisecond (negsuc a) = (omega arith, omega (arith, ints))
count_parts unit.Microsecond (pos a) = (omega arith, omega (arith, ints))
count_parts unit.Microsecond (negsuc a) = (omega arith, omega (arith, ints))
count_parts unit.Nanosecond (pos a) = (omega arith, omega (arith, ints))
count_parts unit.Nanosecond (negsuc a) = (omega arith, omega (arith, ints))

-- a civil time and a fraction are read one after the other
parts_in : (u : Unit) (c : Civil) (more : List ℕ) → local_count_of u (civil_text c ++ more) ≡ counted u (second_in (civil_text c)) (fraction_in u more)
unfolding local_count_of
parts_in u c more = refl

-- a second of local time and units after it
local_read : (u : Unit) (second : ℤ) (n : ℕ) → IsLocalSecond second → n < units_of_second u → local_count_of u (civil_text (local_time second) ++ fraction_text u n) ≡ Some ((second *ℤ pos (units_of_second u)) +ℤ pos n)
local_read u second n is below =
    let c = local_time second in
    let of_second : second_in (civil_text c) ≡ Some second = ap (option_map civil_second) (civil_read c (local_civil second is)) ∙ ap Some (local_time_second second is) in
    parts_in u c (fraction_text u n) ∙ ap₂ (λ (s : Option ℤ) (f : Option ℕ). counted u s f) of_second (fraction_read u n below)

pub local_is : LocalIsReadBack
unfolding local_count_text
local_is u count is =
    let (below, same) = count_parts u count in
    local_read u (second_of u count) (fraction_of u count) is below ∙ ap Some same

-- a field that ends in an offset
offset_parts : (u : Unit) (xs : List ℕ) (offset : ℤ) → rfc3339_count_of u (xs ++ iso_offset_text offset) ≡ less_offset u (local_count_of u xs) (offset_in (iso_offset_text offset))
unfolding rfc3339_count_of
offset_parts u xs offset =
    let rest = iso_offset_text offset in
    let R : ℕ → Option ℤ = λ n. less_offset u (local_count_of u (take n (xs ++ rest))) (offset_in (drop n (xs ++ rest))) in
    ap R (place_of_offset xs offset) ∙ ap₂ (λ (a b : List ℕ). less_offset u (local_count_of u a) (offset_in b)) (take-append_seam xs rest) (drop-append_seam xs rest)

-- local time is within a day of the instant
local_second_at : (t offset : ℤ) → IsRowInstant t → unsigned_abs offset < 86_400 → IsLocalSecond (t +ℤ offset)
local_second_at t offset is near = (omega (arith, ints, is.0, is.1, near), omega (arith, ints, is.0, is.1, near))

-- what the offset adds to local time, it takes away again
offset_off : (u : Unit) (t offset : ℤ) (n : ℕ) → (((t +ℤ offset) *ℤ pos (units_of_second u)) +ℤ pos n) -ℤ (offset *ℤ pos (units_of_second u)) ≡ (t *ℤ pos (units_of_second u)) +ℤ pos n
offset_off unit.Second t offset n = omega (arith, ints)
offset_off unit.Millisecond t offset n = omega (arith, ints)
offset_off unit.Microsecond t offset n = omega (arith, ints)
offset_off unit.Nanosecond t offset n = omega (arith, ints)

pub iso_is : IsoIsReadBack
unfolding local_text
iso_is u count offset is near =
    let t = second_of u count in
    let n = fraction_of u count in
    let (below, same) = count_parts u count in
    let xs = civil_text (local_time (t +ℤ offset)) ++ fraction_text u n in
    let read = local_read u (t +ℤ offset) n (local_second_at t offset is near) below in
    offset_parts u xs offset ∙ ap₂ (λ (a b : Option ℤ). less_offset u a b) read (offset_read offset near)
    ∙ ap Some (offset_off u t offset n ∙ same)

-- a field that ends in a letter for UT
utc_parts : (u : Unit) (xs : List ℕ) → rfc3339_count_of u (xs ++ 90 ∷ []) ≡ less_offset u (local_count_of u xs) (Some (pos 0))
unfolding rfc3339_count_of
utc_parts u xs =
    let rest = 90 ∷ [] in
    let R : ℕ → Option ℤ = λ n. less_offset u (local_count_of u (take n (xs ++ rest))) (offset_in (drop n (xs ++ rest))) in
    ap R (place_of_ut xs) ∙ ap₂ (λ (a b : List ℕ). less_offset u (local_count_of u a) (offset_in b)) (take-append_seam xs rest) (drop-append_seam xs rest) ∙ ap (less_offset u (local_count_of u xs)) ut_read

pub utc_is : UtcIsReadBack
unfolding local_text
utc_is u count is =
    let t = second_of u count in
    let n = fraction_of u count in
    let (below, same) = count_parts u count in
    let xs = civil_text (local_time (t +ℤ pos 0)) ++ fraction_text u n in
    let read = local_read u (t +ℤ pos 0) n (local_second_at t (pos 0) is (omega arith)) below in
    utc_parts u xs ∙ ap (λ (a : Option ℤ). less_offset u a (Some (pos 0))) read ∙ ap Some (offset_off u t (pos 0) n ∙ same)
