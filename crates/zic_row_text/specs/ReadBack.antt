-- Times that rows have, read again: own choice.
use Rattle.std.specs.Prelude.{◌≡◌, ◌<◌, ℤ, unsigned_abs, Some}
use Rattle.zic_layouts.specs.declared.layout.Unit.{Unit}
use Rattle.zic_row_text.specs.Count.{local_count_text, second_of}
use Rattle.zic_row_text.specs.DateTime.{local_count_of, rfc3339_count_of}
use Rattle.zic_row_text.specs.Fields.{iso_text, utc_text}
use Rattle.zic_row_text.specs.Instant.{IsRowInstant}
use Rattle.zic_row_text.specs.Local.{IsLocalSecond}

-- A time with its offset is read as the count again, where the offset is less than 24 hours either way; rows may also have 24:00:00, which
-- isn't read.
abbrev pub IsoIsReadBack : Type 0
IsoIsReadBack = (u : Unit) (count offset : ℤ) → IsRowInstant (second_of u count) → unsigned_abs offset < 86_400 → rfc3339_count_of u (iso_text u count offset) ≡ Some count

-- So is a time in UT,
abbrev pub UtcIsReadBack : Type 0
UtcIsReadBack = (u : Unit) (count : ℤ) → IsRowInstant (second_of u count) → rfc3339_count_of u (utc_text u count) ≡ Some count

-- and a local time.
abbrev pub LocalIsReadBack : Type 0
LocalIsReadBack = (u : Unit) (count : ℤ) → IsLocalSecond (second_of u count) → local_count_of u (local_count_text u count) ≡ Some count
