-- Bytes that are written through a writer that counts.
use Rattle.std.specs.Prelude.{ℕ, List, Option}
use Rattle.std.specs.Io.{StartsWith}
use Rattle.std.specs.Io.KnownBytes.{Appends}
use Rattle.zic_counted.specs.Counts.{Counts, CountsNothing, HasFailedSince}

-- the writer's bytes, where they are known, grew by these bytes, and nothing was counted
pub record Writes {W : Type 0} (contents : W → Option (List ℕ)) (old new : Counts W)
    (bytes : List ℕ) : Type 0 where
  pub wrote : Appends (contents old.inner) (contents new.inner) bytes
  pub counts : CountsNothing old new

-- it grew by a part of these bytes, from their start on, and then a failure was counted
pub record FailsWithin {W : Type 0} (contents : W → Option (List ℕ)) (old new : Counts W)
    (bytes : List ℕ) : Type 0 where
  pub part : List ℕ
  pub starts : StartsWith bytes part
  pub wrote : Appends (contents old.inner) (contents new.inner) part
  pub failed : HasFailedSince new old.failures
