-- The fields of a line: zic(8), FILES; which bytes may stand, that a quoted part may stand anywhere in a field, and that `""`
-- means `-`, are own choice.
use Rattle.std.specs.Prelude.{ℕ, ◌+◌, ◌%◌, Bool, true, false, not, ◌&&◌, ◌||◌, List, [], ◌∷◌, map, take, filter, count_by, take_while, length, nat_le, nat_lt, slice_range, ◌==◌}
use Rattle.std.specs.List.{slice_split, enumerate_from, list_all}
use Rattle.zic_lines.specs.Dash.{dash}
use Rattle.zic_lines.specs.declared.field.FieldRange.{FieldRange}

-- the double quote
abbrev pub is_quote : ℕ → Bool
is_quote byte = byte == 34

-- white space in a line: space, tab, vertical tab, form feed, carriage return
abbrev pub is_space : ℕ → Bool
is_space byte = byte == 32 || byte == 9 || (nat_le 11 byte && nat_le byte 13)

-- what may stand outside comments: white space, or a printable ASCII character
abbrev pub is_allowed : ℕ → Bool
is_allowed byte = is_space byte || (nat_le 33 byte && nat_le byte 126)

-- 1, 3, 5 and so on
abbrev pub is_odd : ℕ → Bool
is_odd n = n % 2 == 1

-- a byte of a line, and whether it is quoted
pub record Mark : Type 0 where
  pub byte : ℕ
  pub quoted : Bool

-- A byte is quoted where an odd number of double quotes stand before it in its line.
abbrev pub marks : List ℕ → List Mark
marks line = map (λ at. record { byte = at.1; quoted = is_odd (count_by is_quote (take at.0 line)) }) (enumerate_from 0 line)

-- `#` outside quotes
abbrev pub starts_comment : Mark → Bool
starts_comment mark = mark.byte == 35 && not mark.quoted

-- the line up to its comment
abbrev pub code : List ℕ → List Mark
code line = take_while (λ mark. not (starts_comment mark)) (marks line)

-- each byte outside the comment is one that may stand there
abbrev pub is_ascii_code : List ℕ → Bool
is_ascii_code line = list_all (λ mark. is_allowed mark.byte) (code line)

-- each quoted part is closed in its line
abbrev pub is_closed : List ℕ → Bool
is_closed line = not (is_odd (count_by (λ mark. is_quote mark.byte) (code line)))

-- white space outside quotes
abbrev pub is_gap : Mark → Bool
is_gap mark = is_space mark.byte && not mark.quoted

-- a part of a line that isn't empty
abbrev pub is_some_part : List Mark → Bool
is_some_part [] = false
is_some_part (mark ∷ part) = true

-- A field without text means the same as `-`.
abbrev pub dash_if_empty : List ℕ → List ℕ
dash_if_empty [] = dash
dash_if_empty (byte ∷ bytes) = byte ∷ bytes

-- the text of a field, without its double quotes
abbrev pub field_text : List Mark → List ℕ
field_text part = dash_if_empty (filter (λ byte. not (is_quote byte)) (map (λ mark. mark.byte) part))

-- The fields are what stands between unquoted white space.
abbrev pub fields : List ℕ → List (List ℕ)
fields line = map field_text (filter is_some_part (slice_split is_gap (code line)))

-- where parts of a line stand, of which the first begins at this byte: a byte of white space stands between each two
abbrev pub ranges_from : ℕ → List (List Mark) → List FieldRange
ranges_from start [] = []
ranges_from start (part ∷ parts) = record { start = start; end = start + length part } ∷ ranges_from (start + length part + 1) parts

-- something stands there
abbrev pub is_some_range : FieldRange → Bool
is_some_range range = nat_lt range.start range.end

-- where each field stands in its line, from a byte up to another
abbrev pub field_ranges : List ℕ → List FieldRange
field_ranges line = filter is_some_range (ranges_from 0 (slice_split is_gap (code line)))

-- the text of what stands in a range of a line, without its double quotes
abbrev pub text_in : List ℕ → FieldRange → List ℕ
text_in line range = dash_if_empty (filter (λ byte. not (is_quote byte)) (slice_range line range.start range.end))

-- the fields of a line, and where they stand
pub record FieldsOf : Type 0 where
  pub texts : List (List ℕ)
  pub ranges : List FieldRange
