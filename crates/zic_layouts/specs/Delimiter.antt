-- What stands between fields: own choice.
use Rattle.std.specs.Prelude.{ℕ, Bool, not, ◌&&◌, ◌||◌, ◌==◌, nat_lt}
use Rattle.std.specs.Char.{is_ascii_alphanumeric}

-- what a field of a row can have: a letter, a digit, or one of `+ - . / : _`
abbrev pub is_row_byte : ℕ → Bool
is_row_byte byte = is_ascii_alphanumeric byte || byte == 43 || byte == 45 || byte == 46 || byte == 47 || byte == 58 || byte == 95

-- a double quote, a line feed or a carriage return, which mean something else in a column
abbrev pub is_csv_byte : ℕ → Bool
is_csv_byte byte = byte == 34 || byte == 10 || byte == 13

-- a byte that can stand between fields: an ASCII byte of neither kind
abbrev pub is_delimiter : ℕ → Bool
is_delimiter byte = nat_lt byte 128 && not (is_row_byte byte) && not (is_csv_byte byte)
