-- How times are abbreviated: zic(8), FILES, FORMAT.
use Rattle.std.specs.Prelude.{ℕ, ◌/◌, ◌%◌, ◌==◌, ℤ, pos, Bool, if◌then◌else◌, List, [], ◌∷◌, ◌++◌, Option, Some, None, option_map, unsigned_abs, int_lt}
use Rattle.zic_base.specs.Digits.{two_digits}
use Rattle.zic_lines.specs.declared.format.Format.{Format}
use Rattle.zic_lines.specs.declared.format.Format.TheVariants.{Plain, Letter, Offset, Pair}
use Rattle.zic_lines.specs.Limits.{is_abbreviation}

-- minutes and seconds of an hour, without what is 0 at the end
abbrev pub minutes_text : ℕ → List ℕ
minutes_text seconds =
    if seconds == 0 then []
    else (if seconds % 60 == 0 then two_digits (seconds / 60)
    else (two_digits (seconds / 60) ++ two_digits (seconds % 60)))

-- `-` before an offset west of Greenwich, else `+`
abbrev pub sign : ℤ → ℕ
sign offset = if int_lt offset (pos 0) then 45 else 43

-- `%z`: the shortest of `+hh`, `+hhmm` and `+hhmmss` that gives the UT offset, with `-` west of Greenwich
abbrev pub short_offset_text : ℤ → List ℕ
short_offset_text offset = sign offset ∷ (two_digits (unsigned_abs offset / 3600) ++ minutes_text (unsigned_abs offset % 3600))

-- FORMAT filled in, at this UT offset and daylight flag, with this letter if there is one; none where it wants a letter and there
-- is none
abbrev pub abbreviation : Format → ℤ → Bool → Option (List ℕ) → Option (List ℕ)
abbreviation (Plain text) offset daylight letter = Some text
abbreviation (Letter before after) offset daylight letter = option_map (λ l. before ++ l ++ after) letter
abbreviation (Offset before after) offset daylight letter = Some (before ++ short_offset_text offset ++ after)
abbreviation (Pair standard saving) offset daylight letter = Some (if daylight then saving else standard)

-- the bytes, where they are an abbreviation; else none
abbrev pub abbreviation_of : List ℕ → Option (List ℕ)
abbreviation_of octets = if is_abbreviation octets then Some octets else None
