-- The nearest of names.
use denote.Bor.{Bor}
use Rattle.std.specs.Prelude.{◌≡◌, ◌≤◌, ◌<◌, ◌*◌, ◌⊎◌, ℕ, Option, Some, None, List, [], length, nat_eq, All}
use Rattle.std.specs.List.{Contains}
use Rattle.std.specs.Str.{chars}
use Rattle.strsim.specs.Edits.{levenshtein_row}

-- how many characters have to be inserted, deleted and replaced to make one name of another
abbrev pub edits : List ℕ → List ℕ → ℕ
edits from to = levenshtein_row nat_eq (chars from) (chars to) (length (chars to))

-- it is one of the names, and none of them takes fewer edits
pub record IsNearest (names : List (List ℕ)) (name nearest : List ℕ) : Type 0 where
  pub one : Contains names nearest
  pub least : All (λ other. edits name nearest ≤ edits name other) names

-- fewer than a third of a name have to be edited: own choice
abbrev pub IsNear : List ℕ → List ℕ → Type 0
IsNear name near = edits name near * 3 < length near

-- the nearest of the names, where it is near; of no names there is none
abbrev pub IsNearName : List (List ℕ) → List ℕ → Option (Bor (List ℕ)) → Type 0
IsNearName names name (Some near) = IsNearest names name near.now × IsNear name near.now
IsNearName names name None =
    (names ≡ []) ⊎ ((nearest : List ℕ) × IsNearest names name nearest × (length nearest ≤ edits name nearest * 3))
