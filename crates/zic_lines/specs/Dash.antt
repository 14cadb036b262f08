-- The field `-`: zic(8), FILES.
use Rattle.std.specs.Prelude.{ℕ, Bool, false, List, [], ◌∷◌, ◌==◌}

-- the field `-`
abbrev pub dash : List ℕ
dash = 45 ∷ []

-- The field is `-`. One without text is read as `-` where a line is cut into fields.
abbrev pub is_dash : List ℕ → Bool
is_dash [] = false
is_dash (byte ∷ []) = byte == 45
is_dash (byte ∷ other ∷ bytes) = false
