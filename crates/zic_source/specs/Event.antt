-- The events of reading, one after the other: the lines of each text, and after them its end.
use Rattle.std.specs.Prelude.{ℕ, List, [], ◌∷◌, ◌++◌, map, flat_map}
use Rattle.std.specs.List.{enumerate_from}
use Rattle.zic_lines.specs.Line.{PlacedLine, text_lines}

-- a line, or the end of a text
pub data Event : Type 0 where
  Line : PlacedLine → Event
  End : Event

-- the lines of the text of this number, and its end
abbrev pub text_events : ℕ → List ℕ → List Event
text_events number text = map Line (text_lines number text) ++ End ∷ []

-- the events of all texts, the texts numbered from 1
abbrev pub events_of : List (List ℕ) → List Event
events_of texts = flat_map (λ text. text_events text.0 text.1) (enumerate_from 1 texts)
