-- The bytes that a reader with a limit has left.
use Rattle.std.specs.Prelude.{◌≡◌, ℕ, List, Option, Result, Ok, Err}
use Rattle.std.specs.Io.KnownBytes.{IsAtEnd, Keeps}
use Rattle.std.specs.declared.io.traits.Read.{Ghosts}
use Rattle.zic_columns.specs.Round.{TakesOf, may_take, with_past}
use Rattle.zic_columns.specs.declared.limit.Bounded.{Bounded}

-- the bytes that a reader with a limit has left, by those of the reader under it
abbrev pub bytes_left : {R : Type 0} {g : Ghosts R} → (R → Option (List ℕ)) → Bounded R g → Option (List ℕ)
bytes_left remaining reader = with_past reader.past (remaining reader.inner)

-- a read gives nothing: at the end, or as it fails
abbrev pub ReadsNone : {E : Type 0} → Option (List ℕ) → Option (List ℕ) → Result ℕ E → Type 0
ReadsNone old new (Ok n) = (n ≡ 0) × Keeps old new × IsAtEnd new
ReadsNone old new (Err e) = Keeps old new

-- No more bytes were taken of the reader under it than it may give, and one beyond.
abbrev pub GivesWithin : {R : Type 0} {g : Ghosts R} → (R → Option (List ℕ)) → Bounded R g → Bounded R g → Type 0
GivesWithin remaining old new = TakesOf (remaining old.inner) (remaining new.inner) (may_take old.past old.left) (may_take new.past new.left)
