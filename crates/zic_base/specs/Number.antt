-- Numbers in decimal digits, as sources and columns have them: zic(8), FILES; how many digits they may have is own choice.
use Rattle.std.specs.Prelude.{ℕ, ◌+◌, ◌-◌, ◌*◌, ℤ, pos, neg_ℤ, Bool, false, ◌&&◌, ◌==◌, nat_le, List, [], ◌∷◌, length, drop, fold, Option, Some, None, option_map, if◌then◌else◌}
use Rattle.std.specs.Char.{is_ascii_digit}
use Rattle.std.specs.List.{list_all}

-- the number that decimal digits spell
abbrev pub decimal_value : List ℕ → ℕ
decimal_value digits = fold (λ n digit. 10 * n + (digit - 48)) 0 digits

-- a number of at least one and at most this number of decimal digits, which may begin with zeros
unfoldable pub number : ℕ → List ℕ → Option ℕ
number most text = if nat_le 1 (length text) && nat_le (length text) most && list_all is_ascii_digit text then Some (decimal_value text) else None

-- a text that begins with `-`
abbrev pub is_negative : List ℕ → Bool
is_negative [] = false
is_negative (byte ∷ bytes) = byte == 45

-- the number that a text without a sign spells; after a `-`, that of the rest, negated
abbrev pub signed : (List ℕ → Option ℕ) → List ℕ → Option ℤ
signed unsigned text = if is_negative text then option_map (λ n. neg_ℤ (pos n)) (unsigned (drop 1 text)) else option_map pos (unsigned text)
