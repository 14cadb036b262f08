-- The pure core: what holds of the two words NEXT and FAULT and of all passes at every moment.
use Rattle.std.specs.Prelude.{◌≡◌, ℕ, zero, suc, ◌+◌, ◌<◌, ◌≤◌, ◌⊎◌, Bool, true, false, List, [], ◌∷◌}
use mathlib.Core.Option.{some}
use lib.ListN.{get_elem?}
use Rattle.zic_pieces.specs.declared.pass.Event.{Event}
use Rattle.zic_pieces.specs.declared.pass.Event.TheVariants.{Drew, Reported, Glanced}
use Rattle.zic_pieces.specs.declared.pass.Known.{Known}
use Rattle.zic_pieces.specs.Events.{Has, draws, past, weigh}

-- f of each pass, added up
abbrev pub total : (Known → ℕ) → List Known → ℕ
total f [] = 0
total f (v ∷ vs) = f v + total f vs

-- the numbers below n, weighed by h
abbrev pub weigh_below : (ℕ → ℕ) → ℕ → ℕ
weigh_below h zero = 0
weigh_below h (suc n) = h n + weigh_below h n

abbrev pub parts_if : Bool → ℕ → ℕ
parts_if true parts = parts
parts_if false parts = 0

-- the event is some pass's
abbrev pub SomeHas : List Known → Event → Type 0
SomeHas passes e = (id : ℕ) × (v : Known) × (get_elem? passes id ≡ some v) × Has v.events e

-- A pass that is part of another has no events. Any other is one of n pieces, and FAULT is at most
-- what it has seen, which is at most n and each number that it reported or found. No pass drew NEXT
-- or more, and where one has ended every piece was drawn
pub record IsPassOf (n next fault : ℕ) (v : Known) : Type 0 where
  pub idle : v.parts ≡ 0 → v.events ≡ []
  pub pieces : 0 < v.parts → v.pieces ≡ n
  pub seen : 0 < v.parts → fault ≤ v.seen
  pub within : 0 < v.parts → v.seen ≤ n
  pub notified : (i : ℕ) → Has v.events (Reported i) → v.seen ≤ i
  pub found : (g b : ℕ) → Has v.events (Glanced g b) → v.seen ≤ g
  pub drawn : past v.events ≤ next
  pub over : v.ended ≡ true → n ≤ next

-- what holds at every moment, after any events of any passes
pub record IsCore (n next fault : ℕ) (passes : List Known) : Type 0 where
  -- the passes stand for 1,024
  pub parts : total (λ v. v.parts) passes ≡ 1024
  -- the draws of all passes are the numbers below NEXT, each once, however they are weighed
  pub drawn : (h : ℕ → ℕ) → total (λ v. weigh h (draws v.events)) passes ≡ weigh_below h next
  -- no more draws are past n than the passes that have ended stand for
  pub ended : next ≤ n + total (λ v. parts_if v.ended v.parts) passes
  -- FAULT is n, or a reported number
  pub least : (fault ≡ n) ⊎ SomeHas passes (Reported fault)
  pub within : fault ≤ n
  pub located : (id : ℕ) (v : Known) → get_elem? passes id ≡ some v → IsPassOf n next fault v
  -- FAULT is at most what any draw had seen
  pub least_seen : (i s : ℕ) → SomeHas passes (Drew i s) → fault ≤ s
  -- a reported number is below n, and FAULT is at most that
  pub notified : (i : ℕ) → SomeHas passes (Reported i) → (fault ≤ i) × (i < n)
  -- every draw before a glance is below NEXT, and what it found is FAULT or more, and n or a
  -- reported number
  pub glances : (g b : ℕ) → SomeHas passes (Glanced g b) → (b ≤ next) × (fault ≤ g)
      × ((g ≡ n) ⊎ SomeHas passes (Reported g))
  -- where a draw of i had seen s, a glance after a draw of i or more found at most s
  pub heard : (i s g b : ℕ) → SomeHas passes (Drew i s) → SomeHas passes (Glanced g b) → i < b
      → g ≤ s
