-- Bytes of abbreviations: POSIX TZ, RFC 9636, 3.2.
use Rattle.std.specs.Prelude.{ℕ, Bool, ◌||◌, ◌==◌}
use Rattle.std.specs.Char.{is_ascii_alphanumeric}

-- an ASCII letter, a digit, `+` or `-`
abbrev pub is_abbreviation_byte : ℕ → Bool
is_abbreviation_byte byte = is_ascii_alphanumeric byte || byte == 43 || byte == 45
