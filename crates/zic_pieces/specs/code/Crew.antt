-- Several workers, and what they did together.
use Rattle.std.specs.Prelude.{◌≡◌, ℕ, ◌+◌, true, List, [], ◌∷◌, Result}
use mathlib.Core.Option.{some}
use lib.ListN.{get_elem?}
use Rattle.zic_pieces.specs.declared.work.Worked.{Worked}
use Rattle.zic_pieces.specs.Passes.{Shared, Held, IsOf}
use Rattle.zic_pieces.specs.code.Work.{IsWork}

-- P holds of each element
abbrev pub Each : {A : Type 0} → (A → Type 0) → List A → Type 0
Each {A} P xs = (k : ℕ) (x : A) → get_elem? xs k ≡ some x → P x

-- the parts that the passes stand for, added up
abbrev pub parts_of : List Held → ℕ
parts_of [] = 0
parts_of (p ∷ ps) = p.known.parts + parts_of ps

-- the pass is of these claims, and has no events
abbrev pub IsFresh : Shared → Held → Type 0
IsFresh claims p = IsOf claims p × (p.known.events ≡ [])

module _ {X F : Type 0} where
  abbrev pub work_parts : List (Worked X F) → ℕ
  work_parts [] = 0
  work_parts (w ∷ ws) = w.pass.known.parts + work_parts ws

  -- the worker's pass has ended
  abbrev pub HasEnded : Shared → Worked X F → Type 0
  HasEnded claims w = IsOf claims w.pass × (w.pass.known.ended ≡ true)

  abbrev pub HasWorked : (ℕ → Result X F → Type 0) → Worked X F → Type 0
  HasWorked outcome w =
      IsWork outcome w.pass.known.pieces w.pass.known.events w.values.items w.halt

  -- the worker ended, did its work, and its pass stands for this number
  abbrev pub DidWork : (ℕ → Result X F → Type 0) → Shared → ℕ → Worked X F → Type 0
  DidWork outcome claims parts w =
      HasEnded claims w × (w.pass.known.parts ≡ parts) × HasWorked outcome w
