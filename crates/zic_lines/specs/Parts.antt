-- The parts between separators.
use Rattle.std.specs.Prelude.{ℕ, List, [], ◌∷◌, Option, Some, None, ◌==◌}
use Rattle.std.specs.List.{slice_split}

-- the only part, or both
abbrev pub one_or_two : List (List ℕ) → Option (List ℕ × Option (List ℕ))
one_or_two [] = None
one_or_two (part ∷ []) = Some (part, None)
one_or_two (part ∷ other ∷ []) = Some (part, Some other)
one_or_two (part ∷ other ∷ more ∷ parts) = None

-- the part before a separator and the part after it, where it stands at most once
unfoldable pub split_at_most_once : List ℕ → ℕ → Option (List ℕ × Option (List ℕ))
split_at_most_once bytes separator = one_or_two (slice_split (λ byte. byte == separator) bytes)
