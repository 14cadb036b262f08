-- How the code takes a line apart, byte by byte.
use Rattle.std.specs.Prelude.{◌≡◌, ℕ, Bool, true, not, ◌&&◌, List, [], ◌∷◌, ◌++◌, filter, All, if◌then◌else◌, nat_le}
use Rattle.zic_lines.specs.declared.field.FieldRange.{FieldRange}
use Rattle.zic_lines.specs.declared.field.Role.{Role}
use Rattle.zic_lines.specs.declared.field.Role.TheVariants as role
use Rattle.zic_lines.specs.Field.{Mark, is_quote, is_allowed, starts_comment, is_gap, dash_if_empty}

-- the bytes without the double quotes
abbrev pub without_quotes : List ℕ → List ℕ
without_quotes bytes = filter (λ byte. not (is_quote byte)) bytes

-- the texts of fields, with that of one of these bytes, unless it has none
abbrev pub ended_texts : List (List ℕ) → List ℕ → List (List ℕ)
ended_texts whole [] = whole
ended_texts whole (byte ∷ bytes) = whole ++ dash_if_empty (without_quotes (byte ∷ bytes)) ∷ []

-- where the fields stand, with this range of one of these bytes, unless it has none
abbrev pub ended_ranges : List FieldRange → List ℕ → FieldRange → List FieldRange
ended_ranges whole [] range = whole
ended_ranges whole (byte ∷ bytes) range = whole ++ range ∷ []

-- what a byte is for its line
unfoldable pub role_of : ℕ → Bool → Role
role_of byte quoted = let mark : Mark = record { byte = byte; quoted = quoted } in
    if starts_comment mark then role.Comment
    else (if is_quote byte then role.DoubleQuote
    else (if not (is_allowed byte) then role.Refused
    else (if is_gap mark then role.Gap else role.Text)))

-- `$` to `~`, which are text wherever they stand
abbrev pub is_plain : ℕ → Bool
is_plain byte = nat_le 36 byte && nat_le byte 126

-- each byte is plain
abbrev pub ArePlain : List ℕ → Type 0
ArePlain bytes = All (λ byte. is_plain byte ≡ true) bytes
