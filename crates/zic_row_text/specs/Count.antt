-- The instant of a row as a count of units, perhaps parts of a second, from 1970-01-01T00:00:00 UT, without leap seconds: own choice.
use Rattle.std.specs.Prelude.{ℕ, ◌+◌, ◌*◌, ◌/◌, ◌%◌, ◌^◌, ◌==◌, ◌&&◌, nat_le, ℤ, pos, unsigned_abs, List, [], ◌∷◌, ◌++◌, length, drop, Option, Some, None, if◌then◌else◌}
use Rattle.std.specs.Int.{int_div_euclid, int_rem_euclid}
use Rattle.std.specs.List.{before_first}
use Rattle.std.specs.Fmt.{signed_decimal}
use Rattle.zic_base.specs.Digits.{two_digits}
use Rattle.zic_base.specs.Number.{number, signed}
use Rattle.zic_base.specs.State.{Shown}
use Rattle.zic_layouts.specs.declared.layout.Style.{Style}
use Rattle.zic_layouts.specs.declared.layout.Style.TheVariants as styles
use Rattle.zic_layouts.specs.declared.layout.Unit.{Unit}
use Rattle.zic_layouts.specs.declared.layout.Unit.TheVariants as unit
use Rattle.zic_row_text.specs.declared.count.TheConstants.{MAX_DIGITS}
use Rattle.zic_row_text.specs.declared.seconds.TheConstants.{MAX_FRACTION}
use Rattle.zic_row_text.specs.Local.{local_time}
use Rattle.zic_row_text.specs.Row.{civil_text, local_text, styled_text}

-- the digits of a fraction of a second
abbrev pub fraction_digits : Unit → ℕ
fraction_digits unit.Second = 0
fraction_digits unit.Millisecond = 3
fraction_digits unit.Microsecond = 6
fraction_digits unit.Nanosecond = 9

-- how many make up a second
abbrev pub units_of_second : Unit → ℕ
units_of_second unit.Second = 1
units_of_second unit.Millisecond = 1000
units_of_second unit.Microsecond = 1_000_000
units_of_second unit.Nanosecond = 1_000_000_000

-- the count of a field: a number of 1 to 18 digits and those of a fraction, perhaps after a `-`
unfoldable pub count_of : Unit → List ℕ → Option ℤ
count_of u field = signed (number (MAX_DIGITS + fraction_digits u)) field

-- These parts of a second as units, if they are a whole number of units; the scale is how many parts a second has.
abbrev pub whole_units : Unit → ℕ → Option ℕ → Option ℕ
whole_units u scale None = None
whole_units u scale (Some parts) = if parts * units_of_second u % scale == 0 then Some (parts * units_of_second u / scale) else None

-- the units of a fraction of a second, as `.5` or `.500`: a point and 1 to 9 digits, or no text
unfoldable pub fraction_in : Unit → List ℕ → Option ℕ
fraction_in u [] = Some 0
fraction_in u (point ∷ digits) = if (point == 46) && nat_le (length digits) MAX_FRACTION then whole_units u (10 ^ length digits) (number (length digits) digits) else None

-- these seconds and units, as units
abbrev pub size_from : Unit → Option ℕ → Option ℕ → Option ℕ
size_from u (Some seconds) (Some n) = Some (seconds * units_of_second u + n)
size_from u _ _ = None

-- seconds of 1 to 18 digits, perhaps with a fraction, as units
abbrev pub size_in : Unit → List ℕ → Option ℕ
size_in u text = let whole : List ℕ = before_first (λ byte. byte == 46) text in size_from u (number MAX_DIGITS whole) (fraction_in u (drop (length whole) text))

-- the count of a field of seconds, as `1173596399.25`, perhaps after a `-`
unfoldable pub seconds_count_of : Unit → List ℕ → Option ℤ
seconds_count_of u field = signed (size_in u) field

-- the whole second of a count, rounded down, also before 1970
abbrev pub second_of : Unit → ℤ → ℤ
second_of u count = int_div_euclid count (pos (units_of_second u))

-- how many units a count lies after its whole second
abbrev pub fraction_of : Unit → ℤ → ℕ
fraction_of u count = unsigned_abs (int_rem_euclid count (pos (units_of_second u)))

-- a number below 1,000 in three digits
abbrev pub three_digits : ℕ → List ℕ
three_digits n = (48 + n / 100) ∷ two_digits (n % 100)

-- a number of units of a second, as `.123`
abbrev pub fraction_text : Unit → ℕ → List ℕ
fraction_text unit.Second n = []
fraction_text unit.Millisecond n = 46 ∷ three_digits n
fraction_text unit.Microsecond n = 46 ∷ (three_digits (n / 1000) ++ three_digits (n % 1000))
fraction_text unit.Nanosecond n = 46 ∷ (three_digits (n / 1_000_000) ++ three_digits (n / 1000 % 1000) ++ three_digits (n % 1000))

-- the local time of a count from 1970-01-01T00:00:00 on the clocks of a place, as `1970-01-01T00:00:00.000`
unfoldable pub local_count_text : Unit → ℤ → List ℕ
local_count_text u count = civil_text (local_time (second_of u count)) ++ fraction_text u (fraction_of u count)

-- what follows a count of this whole second and this number of units, with this delimiter: its local time and the state, as
-- `,1970-01-01T00:00:00.000,+00:00:00,0,UTC` or, with the offset in the field of the local time, `,1970-01-01T00:00:00.000+00:00,0,UTC`, and a newline
unfoldable pub timed_rest_text : ℕ → Style → Unit → ℤ → ℕ → Shown → List ℕ
timed_rest_text d style u second fraction shown = d ∷ (local_text second shown.offset ++ (fraction_text u fraction ++ styled_text d style shown))

-- the text that follows a count
unfoldable pub counted_rest_text : ℕ → Style → Unit → ℤ → Shown → List ℕ
counted_rest_text d style u count shown = timed_rest_text d style u (second_of u count) (fraction_of u count) shown

-- the text of a row with commas, and with local time and offset in two fields: its name, its count in plain decimals, and the rest
unfoldable pub counted_row_text : Unit → List ℕ → ℤ → Shown → List ℕ
counted_row_text u name count shown = name ++ 44 ∷ (signed_decimal count ++ counted_rest_text 44 styles.Fields u count shown)
