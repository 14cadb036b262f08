-- The fields that a row has after its beginning: own choice, in the manner of RFC 3339 for times and offsets.
use Rattle.std.specs.Prelude.{ℕ, ℤ, pos, if◌then◌else◌, List, [], ◌∷◌, ◌++◌}
use Rattle.std.specs.List.{flat_map}
use Rattle.std.specs.Fmt.{signed_decimal}
use Rattle.zic_base.specs.Digits.{offset_text}
use Rattle.zic_base.specs.State.{Shown}
use Rattle.zic_layouts.specs.declared.layout.Unit.{Unit}
use Rattle.zic_layouts.specs.declared.row_field.RowField.{RowField}
use Rattle.zic_layouts.specs.declared.row_field.RowField.TheVariants as field
use Rattle.zic_row_text.specs.Count.{fraction_of, fraction_text, second_of}
use Rattle.zic_row_text.specs.Row.{iso_offset_text, local_text}

-- the local time of a count at an offset, as `1970-01-01T00:00:00.000`
abbrev pub time_text : Unit → ℤ → ℤ → List ℕ
time_text u count offset = local_text (second_of u count) offset ++ fraction_text u (fraction_of u count)

-- and with the offset in one field, as `1970-01-01T00:00:00.000-05:00`
abbrev pub iso_text : Unit → ℤ → ℤ → List ℕ
iso_text u count offset = time_text u count offset ++ iso_offset_text offset

-- and in UT, as `1970-01-01T00:00:00.000Z`
abbrev pub utc_text : Unit → ℤ → List ℕ
utc_text u count = time_text u count (pos 0) ++ 90 ∷ []

-- The text of a field of a row, by the count of the row's instant, the state then, and where the local time of its record lies: `gap`, `fold`,
-- or no text.
abbrev pub field_text : RowField → Unit → ℤ → Shown → List ℕ → List ℕ
field_text field.Local u count shown place = time_text u count shown.offset
field_text field.Time u count shown place = iso_text u count shown.offset
field_text field.Instant u count shown place = signed_decimal count
field_text field.Utc u count shown place = utc_text u count
field_text field.Offset u count shown place = offset_text shown.offset
field_text field.Daylight u count shown place = (if shown.daylight then 49 else 48) ∷ []
field_text field.Abbreviation u count shown place = shown.name
field_text field.Ambiguous u count shown place = place

-- these fields, each after a delimiter, and a newline
abbrev pub fields_text : ℕ → List RowField → Unit → ℤ → Shown → List ℕ → List ℕ
fields_text d fields u count shown place = flat_map (λ f. d ∷ field_text f u count shown place) fields ++ 10 ∷ []
