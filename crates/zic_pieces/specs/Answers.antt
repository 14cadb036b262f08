-- The answers of the calls of claims.
use Rattle.std.specs.Prelude.{◌≡◌, ℕ, ◌<◌, ◌≤◌, ◌⊎◌, true, false}
use Rattle.zic_pieces.specs.declared.pass.Known.{Known}
use Rattle.zic_pieces.specs.declared.claims.Claim.{Claim}
use Rattle.zic_pieces.specs.declared.claims.Claim.TheVariants.{Do, Skip, End}
use Rattle.zic_pieces.specs.declared.claims.Split.{Split}
use Rattle.zic_pieces.specs.declared.claims.Split.TheVariants.{Two, Full}
use Rattle.zic_pieces.specs.Events.{past}
use Rattle.zic_pieces.specs.Core.{drew, glanced, left, right}
use Rattle.zic_pieces.specs.Passes.{Held}

-- a pass that had not ended draws i, which is above all its draws before
abbrev pub Draws : ℕ → Known → Type 0
Draws i v = (v.ended ≡ false) × (past v.events ≤ i)

-- it draws the piece i, and then glances at g, which is at most what it had seen
abbrev pub DrawsThenGlances : ℕ → ℕ → Known → Known → Type 0
DrawsThenGlances i g v w = Draws i v × (i < v.pieces) × (g ≤ v.seen) × (w ≡ glanced g (drew i v))

-- the answer of a claim, and the pass after it
abbrev pub Answers : Known → Claim → Known → Type 0
Answers v (Do i) w = (g : ℕ) × DrawsThenGlances i g v w × (i ≤ g)
Answers v (Skip i) w = (g : ℕ) × DrawsThenGlances i g v w × (g < i)
Answers v End w =
    ((v.ended ≡ true) × (w ≡ v)) ⊎ ((i : ℕ) × Draws i v × (v.pieces ≤ i) × (w ≡ drew i v))

-- A pass with room is cut in two, and one of room 0 stays as it is
abbrev pub IsCut : Held → Split → Type 0
IsCut p (Two old new) =
    (1 < p.known.parts) × (old.table ≡ p.table) × (old.known ≡ left p.known)
    × (new.table ≡ p.table) × (new.known ≡ right p.known)
IsCut p (Full same) = (p.known.parts ≡ 1) × (same ≡ p)
