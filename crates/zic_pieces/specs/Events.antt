-- The events of a pass, in order, and what is read from them.
use Rattle.std.specs.Prelude.{◌≡◌, ℕ, ◌+◌, max, List, [], ◌∷◌, ◌++◌, if◌then◌else◌, ◌==◌}
use mathlib.Core.Option.{some}
use lib.ListN.{get_elem?}
use Rattle.zic_pieces.specs.declared.pass.Event.{Event}
use Rattle.zic_pieces.specs.declared.pass.Event.TheVariants.{Drew, Reported, Glanced}

-- the event stands among these
abbrev pub Has : List Event → Event → Type 0
Has events e = (k : ℕ) × (get_elem? events k ≡ some e)

-- the number that an event drew, if it is a draw
abbrev pub drawn_by : Event → List ℕ
drawn_by (Drew i seen) = i ∷ []
drawn_by (Reported i) = []
drawn_by (Glanced least past) = []

-- the numbers drawn, in order
abbrev pub draws : List Event → List ℕ
draws [] = []
draws (e ∷ es) = drawn_by e ++ draws es

-- one more than the number drawn, 0 if the event is no draw
abbrev pub past_of : Event → ℕ
past_of (Drew i seen) = i + 1
past_of (Reported i) = 0
past_of (Glanced least past) = 0

-- one more than the greatest number drawn, 0 if none was
abbrev pub past : List Event → ℕ
past [] = 0
past (e ∷ es) = max (past_of e) (past es)

-- the numbers weighed by h, and the weights added up
abbrev pub weigh : (ℕ → ℕ) → List ℕ → ℕ
weigh h [] = 0
weigh h (x ∷ xs) = h x + weigh h xs

-- 1 at x, and 0 elsewhere
abbrev pub one_at : ℕ → ℕ → ℕ
one_at x y = if y == x then 1 else 0

-- how often x stands in the list
abbrev pub times : ℕ → List ℕ → ℕ
times x xs = weigh (one_at x) xs
