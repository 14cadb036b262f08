-- The output of a command.
use Rattle.std.specs.Prelude.{ℕ, List, Option}
use Rattle.zic_counted.specs.Counts.{Counts}
use Rattle.zic_counted.specs.Written.{Writes}

-- the writer's bytes, where they are known, grew by such output, and no failure was counted
pub record WritesOutput {W : Type 0} (contents : W → Option (List ℕ)) (IsOutput : List ℕ → Type 0)
    (old new : Counts W) : Type 0 where
  pub output : List ℕ
  pub is_output : IsOutput output
  pub writes : Writes contents old new output
