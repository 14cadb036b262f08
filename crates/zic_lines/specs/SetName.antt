-- Names of rule sets: own choice. That none looks like an amount of saving is zic(8)'s, FILES.
use Rattle.std.specs.Prelude.{ℕ, Bool, not, false, ◌&&◌, ◌||◌, List, [], ◌∷◌, length, nat_le, ◌==◌}
use Rattle.std.specs.List.{list_all}
use Rattle.std.specs.Char.{is_ascii_digit}
use Rattle.zic_lines.specs.declared.name.TheConstants.{LONGEST_NAME}

-- printable ASCII, no space
abbrev pub is_visible : ℕ → Bool
is_visible byte = nat_le 33 byte && nat_le byte 126

-- A text that is not empty and does not begin with a digit, `-` or `+`.
abbrev pub begins_name : List ℕ → Bool
begins_name [] = false
begins_name (byte ∷ bytes) = not (is_ascii_digit byte || byte == 45 || byte == 43)

-- A set's name has 1 to 255 visible bytes, and does not begin as an amount does; so `-` is no name.
abbrev pub is_set_name : List ℕ → Bool
is_set_name field = nat_le (length field) LONGEST_NAME && begins_name field && list_all is_visible field
