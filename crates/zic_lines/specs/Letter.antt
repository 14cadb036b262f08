-- The letter of a Rule line, which `%s` of a FORMAT stands for: zic(8), FILES; the limit is own choice.
use Rattle.std.specs.Prelude.{ℕ, Bool, ◌&&◌, List, [], length, Option, Some, None, if◌then◌else◌, nat_le}
use Rattle.std.specs.List.{list_all}
use Rattle.zic_base.specs.Byte.{is_abbreviation_byte}
use Rattle.zic_lines.specs.declared.letter.TheConstants.{LONGEST_LETTER}
use Rattle.zic_lines.specs.Dash.{is_dash}

-- A letter has at most 16 ASCII letters, digits, `+` and `-`.
abbrev pub is_letter : List ℕ → Bool
is_letter octets = nat_le (length octets) LONGEST_LETTER && list_all is_abbreviation_byte octets

-- the bytes without those of `-`, which is the empty letter
abbrev pub without_dash : List ℕ → List ℕ
without_dash field = if is_dash field then [] else field

-- the letter that a field is
unfoldable pub letter_of : List ℕ → Option (List ℕ)
letter_of field = if is_letter (without_dash field) then Some (without_dash field) else None
