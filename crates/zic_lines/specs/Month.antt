-- Months: zic(8), FILES.
use Rattle.std.specs.Prelude.{ℕ, ◌+◌, List, [], ◌∷◌, length, Option, option_map, codes}
use Rattle.std.specs.Int.{IsInRange}
use Rattle.zic_lines.specs.Word.{only_word}

-- the months in order, in lower case
abbrev pub month_words : List (List ℕ)
month_words = codes "january" ∷ codes "february" ∷ codes "march" ∷ codes "april" ∷ codes "may" ∷ codes "june"
    ∷ codes "july" ∷ codes "august" ∷ codes "september" ∷ codes "october" ∷ codes "november" ∷ codes "december" ∷ []

-- the number of a month
abbrev pub IsMonth : ℕ → Type 0
IsMonth month = IsInRange 1 (length month_words) month

-- the number of a month, 1 to 12, from its name or a prefix of it that no other month has
unfoldable pub month_of : List ℕ → Option ℕ
month_of field = option_map (λ place. place + 1) (only_word month_words field)
