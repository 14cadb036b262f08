-- Dates with a time of day in fields, as `2007-03-11T01:59:59`: RFC 3339, 5.6, and ISO 8601. Own choices: the years are 1 to 9999; a space may
-- stand for the `T`; the seconds may be missing, and then a fraction too; an offset may be as `+02`, `+0200` or `+02:00:00`; the hour 24, the
-- second 60 and a comma before a fraction aren't accepted; and a fraction has at most 9 digits, and is a whole number of the units that are counted.
use Rattle.std.specs.Prelude.{ℕ, ◌+◌, ◌-◌, ◌*◌, ◌==◌, ◌&&◌, ◌||◌, nat_le, int_le, ℤ, pos, neg_ℤ, ◌+ℤ◌, ◌-ℤ◌, ◌*ℤ◌, Bool, List, [], ◌∷◌, length, take, drop, slice_range, slice_index_or, Option, Some, None, option_map, if◌then◌else◌}
use Rattle.std.specs.List.{before_last}
use Rattle.zic_base.specs.Number.{number}
use Rattle.zic_calendar.specs.declared.civil_time.Civil.{Civil}
use Rattle.zic_calendar.specs.Calendar.{day_number, days_in_month}
use Rattle.zic_layouts.specs.declared.layout.InstantText.{InstantText}
use Rattle.zic_layouts.specs.declared.layout.InstantText.TheVariants as texts
use Rattle.zic_layouts.specs.declared.layout.Unit.{Unit}
use Rattle.zic_row_text.specs.Count.{fraction_in, seconds_count_of, units_of_second}

-- a text has this byte at this place
abbrev pub has_byte : List ℕ → ℕ → ℕ → Bool
has_byte text place byte = slice_index_or text place 0 == byte

-- the text is as long as `2007-03-11T01:59`, and has what stands there between numbers
abbrev pub has_marks : List ℕ → Bool
has_marks text = nat_le 16 (length text) && has_byte text 4 45 && has_byte text 7 45 && (has_byte text 10 84 || has_byte text 10 116 || has_byte text 10 32) && has_byte text 13 58

-- a date from the year 1 on
abbrev pub is_date : Civil → Bool
is_date c = int_le (pos 1) c.year && nat_le 1 c.month && nat_le c.month 12 && nat_le 1 c.day && nat_le c.day (days_in_month c.year c.month)

-- a time of day
abbrev pub is_clock : Civil → Bool
is_clock c = nat_le c.hour 23 && nat_le c.minute 59 && nat_le c.second 59

-- the civil time of these numbers
abbrev pub civil_from : Option ℕ → Option ℕ → Option ℕ → Option ℕ → Option ℕ → Option ℕ → Option Civil
civil_from (Some year) (Some month) (Some day) (Some hour) (Some minute) (Some second) =
    let c : Civil = record { year = pos year; month = month; day = day; hour = hour; minute = minute; second = second } in
    if is_date c && is_clock c then Some c else None
civil_from _ _ _ _ _ _ = None

-- the second that follows hours and minutes, as `:59`: 0 where there is no text
unfoldable pub clock_second : List ℕ → Option ℕ
clock_second [] = Some 0
clock_second (mark ∷ digits) = if (mark == 58) && (length digits == 2) then number 2 digits else None

-- the civil time of a text as `2007-03-11T01:59:59` or `2007-03-11T01:59`
unfoldable pub civil_in : List ℕ → Option Civil
civil_in text =
    if has_marks text then civil_from (number 4 (slice_range text 0 4)) (number 2 (slice_range text 5 7)) (number 2 (slice_range text 8 10))
    (number 2 (slice_range text 11 13)) (number 2 (slice_range text 14 16)) (clock_second (drop 16 text))
    else None

-- the seconds of a civil time from 1970-01-01T00:00:00 of the same clocks
abbrev pub civil_second : Civil → ℤ
civil_second c = (pos 86_400 *ℤ day_number c.year c.month c.day) +ℤ pos (c.hour * 3600 + c.minute * 60 + c.second)

-- the same of a text
abbrev pub second_in : List ℕ → Option ℤ
second_in text = option_map civil_second (civil_in text)

-- whole seconds and a fraction as a count of units
abbrev pub counted : Unit → Option ℤ → Option ℕ → Option ℤ
counted u (Some second) (Some n) = Some ((second *ℤ pos (units_of_second u)) +ℤ pos n)
counted u _ _ = None

-- where the fraction of a local time begins: after its seconds, or at its end, where it has none
abbrev pub fraction_place : List ℕ → ℕ
fraction_place text = if has_byte text 16 58 then 19 else length text

-- the local time of a field, as a count of units from 1970-01-01T00:00:00 on the clocks of the place
unfoldable pub local_count_of : Unit → List ℕ → Option ℤ
local_count_of u field = counted u (second_in (take (fraction_place field) field)) (fraction_in u (drop (fraction_place field) field))

-- a UT offset of these hours, minutes and seconds, in seconds
abbrev pub offset_from : Option ℕ → Option ℕ → Option ℕ → Option ℤ
offset_from (Some hours) (Some minutes) (Some seconds) =
    if nat_le hours 23 && nat_le minutes 59 && nat_le seconds 59 then Some (pos (hours * 3600 + minutes * 60 + seconds)) else None
offset_from _ _ _ = None

-- what follows the sign of a UT offset: `02`, `0200`, `02:00` or `02:00:00`
abbrev pub offset_size : List ℕ → Option ℤ
offset_size text =
    if length text == 2 then offset_from (number 2 text) (Some 0) (Some 0)
    else (if length text == 4 then offset_from (number 2 (take 2 text)) (number 2 (drop 2 text)) (Some 0)
    else (if (length text == 5) && has_byte text 2 58 then offset_from (number 2 (take 2 text)) (number 2 (drop 3 text)) (Some 0)
    else (if (length text == 8) && has_byte text 2 58 && has_byte text 5 58 then offset_from (number 2 (take 2 text)) (number 2 (slice_range text 3 5)) (number 2 (drop 6 text))
    else None)))

-- a letter that stands for UT
abbrev pub is_zulu : ℕ → Bool
is_zulu byte = (byte == 90) || (byte == 122)

-- a UT offset in seconds, positive east, of a text as `+02:00` or `-00:00`, or of a `Z` or `z`
unfoldable pub offset_in : List ℕ → Option ℤ
offset_in [] = None
offset_in (byte ∷ rest) =
    if is_zulu byte && (length rest == 0) then Some (pos 0)
    else (if byte == 43 then offset_size rest
    else (if byte == 45 then option_map neg_ℤ (offset_size rest)
    else None))

-- a sign of a UT offset
abbrev pub is_sign : ℕ → Bool
is_sign byte = (byte == 43) || (byte == 45)

-- where the UT offset of a field begins: at a letter for UT that ends it, or at its last sign
abbrev pub offset_place : List ℕ → ℕ
offset_place field = if is_zulu (slice_index_or field (length field - 1) 0) then length field - 1 else length (before_last is_sign field)

-- a count of clocks with a UT offset, in UT
abbrev pub less_offset : Unit → Option ℤ → Option ℤ → Option ℤ
less_offset u (Some count) (Some offset) = Some (count -ℤ (offset *ℤ pos (units_of_second u)))
less_offset u _ _ = None

-- The instant of a field that has a local time and then its UT offset, as a count of units from 1970-01-01T00:00:00 UT, without leap seconds.
unfoldable pub rfc3339_count_of : Unit → List ℕ → Option ℤ
rfc3339_count_of u field = less_offset u (local_count_of u (take (offset_place field) field)) (offset_in (drop (offset_place field) field))

-- the instant of a field of this form, as a count of units: a date and a time of day without an offset is one in UT
abbrev pub text_count_of : InstantText → Unit → List ℕ → Option ℤ
text_count_of texts.Seconds u field = seconds_count_of u field
text_count_of texts.Rfc3339 u field = rfc3339_count_of u field
text_count_of texts.Utc u field = local_count_of u field
