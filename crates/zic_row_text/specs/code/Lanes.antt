-- Digits in the lanes of a vector.
use Rattle.std.specs.Prelude.{ℕ, ◌+◌, ◌-◌, ◌*◌, List, [], ◌∷◌, ◌++◌, length, map, fold, replicate, bit_xor}

-- the digits of a text of at most 16 bytes, after zeros
abbrev pub lanes_of : List ℕ → List ℕ
lanes_of text = replicate (16 - length text) 0 ++ map (λ byte. bit_xor byte 48) text

-- the number of each two lanes, of which the first counts this many ones
abbrev pub joined : ℕ → List ℕ → List ℕ
joined n (a ∷ b ∷ lanes) = (n * a + b) ∷ joined n lanes
joined n _ = []

-- the number that digits make up
abbrev pub lane_value : List ℕ → ℕ
lane_value digits = fold (λ n digit. 10 * n + digit) 0 digits
