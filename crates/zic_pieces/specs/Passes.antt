-- Claims and their passes, as contracts see them.
use Rattle.std.specs.Prelude.{◌≡◌, ℕ, ◌+◌, ◌<◌, ◌≤◌, length}
use Rattle.atomic_table.specs.Seated.{TableId}
use Rattle.zic_pieces.specs.declared.pass.Event.TheVariants.{Drew, Reported, Glanced}
use Rattle.zic_pieces.specs.declared.pass.Known.{Known}
use Rattle.zic_pieces.specs.Events.{Has, draws, past, times}

-- which claims, and how many pieces they share out
pub record Shared : Type 0 where
  pub table : TableId
  pub pieces : ℕ

-- whose a pass is, and what it knows
pub record Held : Type 0 where
  pub table : TableId
  pub known : Known

-- the pass is of these claims
abbrev pub IsOf : Shared → Held → Type 0
IsOf claims pass = (pass.table ≡ claims.table) × (pass.known.pieces ≡ claims.pieces)

-- A sound pass, as every pass is at every moment. Since two passes can be joined, it also says what
-- holds between them
pub record IsSound (v : Known) : Type 0 where
  -- no number was drawn twice
  pub once : (x : ℕ) → times x (draws v.events) ≤ 1
  -- where a draw of i had seen s, a glance after a draw of i or more found at most s
  pub heard : (i s g b : ℕ) → Has v.events (Drew i s) → Has v.events (Glanced g b) → i < b → g ≤ s
  -- what the pass has seen is at most the number of pieces, and at most each number that it reported
  -- or found
  pub within : v.seen ≤ v.pieces
  pub notified : (i : ℕ) → Has v.events (Reported i) → v.seen ≤ i
  pub found : (g b : ℕ) → Has v.events (Glanced g b) → v.seen ≤ g
  -- no more than 1,024 numbers past the last piece are drawn
  pub bounded : past v.events ≤ v.pieces + 1024
  pub few : length (draws v.events) ≤ v.pieces + 1024
  pub parts : v.parts ≤ 1024
