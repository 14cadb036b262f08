-- The work of one worker or several.
use Rattle.std.specs.Prelude.{◌≡◌, ℕ, ◌<◌, ◌≤◌, ◌⊎◌, true, nat_lt, List, [], ◌∷◌, ◌++◌, Option, Some, None, Result, Ok, if◌then◌else◌}
use mathlib.Core.Option.{some}
use lib.ListN.{get_elem?}
use Rattle.zic_pieces.specs.declared.pass.Event.{Event}
use Rattle.zic_pieces.specs.declared.pass.Event.TheVariants.{Reported}
use Rattle.zic_pieces.specs.declared.task.PieceStop.{PieceStop}
use Rattle.zic_pieces.specs.Events.{Has, times}
use Rattle.zic_pieces.specs.Given.{given}
use Rattle.zic_pieces.specs.code.Whole.{is_whole}
use Rattle.zic_pieces.specs.Task.{IsReason}

-- the halt at the lesser piece
abbrev pub the_lesser : {F : Type 0} → Option (ℕ × PieceStop F) → Option (ℕ × PieceStop F)
    → Option (ℕ × PieceStop F)
the_lesser None b = b
the_lesser (Some x) None = Some x
the_lesser (Some x) (Some y) = Some (if nat_lt y.0 x.0 then y else x)

-- the value x of piece i is among them
abbrev pub HasValueAt : {X : Type 0} → List (ℕ × X) → ℕ → X → Type 0
HasValueAt values i x = (k : ℕ) × (get_elem? values k ≡ some (i, x))

module _ {X F : Type 0} where
  -- the piece's value was added, with its number
  abbrev pub AddsValue : (Result X F → Type 0) → ℕ → List (ℕ × X) → List (ℕ × X) → Type 0
  AddsValue outcome i old new = (x : X) × outcome (Ok x) × (new ≡ old ++ (i, x) ∷ [])

  -- the least number reported is that of the halt, if there is one, and its reason is the piece's
  -- own
  abbrev pub IsHalt : (ℕ → Result X F → Type 0) → ℕ → List Event → Option (ℕ × PieceStop F)
      → Type 0
  IsHalt outcome n events None = (i : ℕ) → ¬ Has events (Reported i)
  IsHalt outcome n events (Some h) =
      (h.0 < n) × Has events (Reported h.0) × ((i : ℕ) → Has events (Reported i) → h.0 ≤ i)
      × IsReason (outcome h.0) h.1

  -- over these events, each number that was given has its value, or was reported
  pub record IsWork (outcome : ℕ → Result X F → Type 0) (n : ℕ) (events : List Event)
      (values : List (ℕ × X)) (halt : Option (ℕ × PieceStop F)) : Type 0 where
    pub whole : is_whole n events ≡ true
    pub own : (i : ℕ) (x : X) → HasValueAt values i x → outcome i (Ok x) × (i < n)
    pub done : (i : ℕ) → 0 < times i (given n events) → ((x : X) × HasValueAt values i x)
        ⊎ Has events (Reported i)
    pub halts : IsHalt outcome n events halt
