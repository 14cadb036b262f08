-- The lines of source texts: zic(8), FILES; that the last line needs no newline is own choice.
use Rattle.std.specs.Prelude.{ℕ, List, [], ◌∷◌, map, ◌==◌}
use Rattle.std.specs.List.{slice_split, enumerate_from}
use Rattle.zic_base.specs.declared.fault.Place.{Place}

-- the parts, but for the last where it is empty
abbrev pub without_empty_last : List (List ℕ) → List (List ℕ)
without_empty_last [] = []
without_empty_last ([] ∷ []) = []
without_empty_last (part ∷ parts) = part ∷ without_empty_last parts

-- A newline ends a line, and what follows the last newline is a line where it isn't empty.
abbrev pub lines_of : List ℕ → List (List ℕ)
lines_of text = without_empty_last (slice_split (λ byte. byte == 10) text)

-- a line and where it stands
pub record PlacedLine : Type 0 where
  pub place : Place
  pub bytes : List ℕ

-- the lines of the text of this number, numbered from 1
abbrev pub text_lines : ℕ → List ℕ → List PlacedLine
text_lines number text = map (λ line. record { place = record { text = number; line = line.0 }; bytes = line.1 }) (enumerate_from 1 (lines_of text))
