-- Offsets in one field with local time.
use Rattle.std.specs.Prelude.{ℕ, ◌%◌, ◌==◌, ℤ, unsigned_abs, if◌then◌else◌}

-- how many bytes of the text of an offset stand after a local time
abbrev pub iso_width : ℤ → ℕ
iso_width offset = if unsigned_abs offset % 60 == 0 then 6 else 9
