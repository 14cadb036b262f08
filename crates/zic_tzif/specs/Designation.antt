-- Designations of local time types: RFC 9636, 3.2.
use Rattle.std.specs.Prelude.{ℕ, Bool, ◌&&◌, nat_lt, nat_le, ◌==◌, List, length, drop}
use Rattle.std.specs.List.{list_all, list_any, before_first}

-- the bytes from a place up to the next NUL
abbrev pub designation : List ℕ → ℕ → List ℕ
designation names place = before_first (λ b. b == 0) (drop place names)

-- the place is inside, a NUL stands at or after it, and the bytes before that are printable ASCII; it may be empty. Own choice:
-- RFC 9636, 3.2, recommends 3 to 6 letters, digits, `+` and `-`
abbrev pub is_designated : List ℕ → ℕ → Bool
is_designated names place =
    nat_lt place (length names) && list_any (λ b. b == 0) (drop place names)
    && list_all (λ b. nat_le 32 b && nat_le b 126) (designation names place)
