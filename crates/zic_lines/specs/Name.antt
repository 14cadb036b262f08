-- Names of zones and links: own choice. That no part is `.` or `..` is zic(8)'s, FILES.
use Rattle.std.specs.Prelude.{ℕ, Bool, true, false, not, ◌&&◌, ◌||◌, List, [], ◌∷◌, length, nat_le, ◌==◌}
use Rattle.std.specs.List.{slice_split, list_all}
use Rattle.std.specs.Char.{is_ascii_alphanumeric}
use Rattle.zic_lines.specs.declared.name.TheConstants.{LONGEST_NAME}
use Rattle.zic_lines.specs.Dash.{is_dash}

-- a letter, a digit, or one of `_ - + . /`
abbrev pub is_name_byte : ℕ → Bool
is_name_byte byte = is_ascii_alphanumeric byte || byte == 95 || byte == 45 || byte == 43 || byte == 46 || byte == 47

-- a part of a name: not empty, `.` or `..`
abbrev pub is_name_part : List ℕ → Bool
is_name_part [] = false
is_name_part (a ∷ []) = not (a == 46)
is_name_part (a ∷ b ∷ []) = not (a == 46 && b == 46)
is_name_part (a ∷ b ∷ c ∷ bytes) = true

-- A name has 1 to 255 bytes of the allowed ones, and between its `/` proper parts. The field `-` is no name.
abbrev pub is_name : List ℕ → Bool
is_name field = nat_le (length field) LONGEST_NAME && not (is_dash field) && list_all is_name_byte field && list_all is_name_part (slice_split (λ byte. byte == 47) field)
