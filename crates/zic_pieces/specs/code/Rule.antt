-- The rule of the two shared words, and what the pass that takes an atomic step learns by it.
use Rattle.std.specs.Prelude.{◌≡◌, ℕ, ◌+◌, ◌≤◌, Bool, true, [], ◌∷◌, length}
use Rattle.atomic_table.specs.Table.{State, Me, Step}
use Rattle.zic_pieces.specs.declared.pass.Known.{Known}
use Rattle.zic_pieces.specs.Events.{past}
use Rattle.zic_pieces.specs.Given.{given}
use Rattle.zic_pieces.specs.code.Whole.{is_whole}
use Rattle.zic_pieces.specs.Core.{drew, reported, glanced}
use Rattle.zic_pieces.specs.code.Core.{IsCore}
use Rattle.zic_pieces.specs.Passes.{IsSound}

-- the table shows a state of the core: its words are NEXT and FAULT, and the views of its seats
-- what the passes know
abbrev pub Shows : ℕ → State (Unit {0}) Known → Type 0
Shows n s = (next : ℕ) × (fault : ℕ) × (s.words ≡ next ∷ fault ∷ []) × IsCore n next fault s.views

abbrev pub Sat : Type 0
Sat = Me (Unit {0}) Known

-- the number found was drawn, and is above all draws of the pass before
abbrev pub Drawn : Step (Unit {0}) → Sat → ℕ → Sat → Type 0
Drawn st m i m' = (m'.0 ≡ drew i m.0) × (past m.0.events ≤ i) × IsSound m'.0 × (m'.1 ≡ m.1)

-- the operand was reported
abbrev pub Notified : Step (Unit {0}) → Sat → ℕ → Sat → Type 0
Notified st m found m' = (m'.0 ≡ reported st.first m.0) × IsSound m'.0 × (m'.1 ≡ m.1)

-- the number found is at most what the pass had seen
abbrev pub Looked : Step (Unit {0}) → Sat → ℕ → Sat → Type 0
Looked st m least m' =
    (m'.0 ≡ glanced least m.0) × (least ≤ m.0.seen) × IsSound m'.0 × (m'.1 ≡ m.1)

-- nothing changes, and the pass is sound
abbrev pub Learned : Step (Unit {0}) → Sat → ℕ → Sat → Type 0
Learned st m found m' = (m' ≡ m) × IsSound m.0

-- a pass is so between calls: no slots, its room, whether it has ended, and how many numbers
-- were given; each draw of a piece has its glance
abbrev pub IsBetweenCalls : Sat → ℕ → Bool → ℕ → Type 0
IsBetweenCalls m room ended count =
    (m.1 ≡ []) × (m.0.parts ≡ room + 1) × (m.0.ended ≡ ended)
    × (count ≡ length (given m.0.pieces m.0.events)) × (is_whole m.0.pieces m.0.events ≡ true)
    × IsSound m.0
