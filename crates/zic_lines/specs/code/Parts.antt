-- The parts after the first separator.
use Rattle.std.specs.Prelude.{ℕ, Bool, List, [], Option, Some, None}
use Rattle.std.specs.List.{slice_split}
use Rattle.std.specs.Borrow.{Bor}

-- the parts of what follows the first separator
abbrev pub other_parts : (ℕ → Bool) → Option (Bor (List ℕ)) → List (List ℕ)
other_parts separates None = []
other_parts separates (Some rest) = slice_split separates rest.now
