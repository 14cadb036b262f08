-- The FORMAT of a zone's line, from which its abbreviations are made: zic(8), FILES; that a second `/`, and a `/` beside `%`,
-- is refused is own choice.
use Rattle.std.specs.Prelude.{ℕ, Bool, ◌||◌, List, [], ◌∷◌, Option, Some, None, if◌then◌else◌, ◌==◌}
use Rattle.std.specs.List.{list_any}
use Rattle.zic_lines.specs.declared.format.Format.{Format}
use Rattle.zic_lines.specs.declared.format.Format.TheVariants.{Plain, Letter, Offset, Pair}
use Rattle.zic_lines.specs.Dash.{is_dash}
use Rattle.zic_lines.specs.Parts.{split_at_most_once}

-- one abbreviation, or two with `/` between them: for standard time, and for daylight saving time
abbrev pub slashed : Option (List ℕ × Option (List ℕ)) → Option Format
slashed None = None
slashed (Some (text, None)) = Some (Plain text)
slashed (Some (standard, Some daylight)) = Some (Pair standard daylight)

-- a FORMAT with these texts before and after its `%`; the first byte after it is `s` or `z`
abbrev pub conversion : List ℕ → List ℕ → Option Format
conversion before [] = None
conversion before (byte ∷ after) = if byte == 115 then Some (Letter before after) else (if byte == 122 then Some (Offset before after) else None)

-- the byte `/` stands in the text
abbrev pub has_slash : List ℕ → Bool
has_slash text = list_any (λ byte. byte == 47) text

-- a FORMAT without `%`, or one with these texts before and after it
abbrev pub format_from : Option (List ℕ × Option (List ℕ)) → Option Format
format_from None = None
format_from (Some (text, None)) = slashed (split_at_most_once text 47)
format_from (Some (before, Some rest)) = if has_slash before || has_slash rest then None else conversion before rest

-- FORMAT has one `%` with `s` or `z` after it and no `/` anywhere, or no `%` and at most one `/`. The field `-` is the empty
-- format.
unfoldable pub format_of : List ℕ → Option Format
format_of field = if is_dash field then Some (Plain []) else format_from (split_at_most_once field 37)
