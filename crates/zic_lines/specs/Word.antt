-- Words, in full or cut: zic(8), FILES.
use Rattle.std.specs.Prelude.{ℕ, Bool, ◌&&◌, List, [], ◌∷◌, length, Option, Some, None, option_map, nat_eq, nat_lt}
use Rattle.std.specs.List.{starts_with, filter, enumerate_from}
use Rattle.std.specs.Str.{str_to_ascii_lowercase}

-- The field is the word, which is in lower case, or a nonempty prefix of it, in any ASCII case.
abbrev pub begins_word : List ℕ → List ℕ → Bool
begins_word word field = nat_lt 0 (length field) && starts_with nat_eq word (str_to_ascii_lowercase field)

-- the element of a list of one
abbrev pub only_one : {X : Type 0} → List X → Option X
only_one [] = None
only_one (x ∷ []) = Some x
only_one (x ∷ y ∷ xs) = None

-- the place, from 0, of the only word of the list that begins with the field
unfoldable pub only_word : List (List ℕ) → List ℕ → Option ℕ
only_word words field = option_map (λ word. word.0) (only_one (filter (λ word. begins_word word.1 field) (enumerate_from 0 words)))
