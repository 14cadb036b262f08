-- Laws of differences.
use Rattle.std.specs.Prelude.{◌*◌, ℤ, pos, ◌+ℤ◌, ◌<ℤ◌, ◌≤ℤ◌, []}
use Rattle.zic_compare.specs.Answers.{Pair, pair, DifferAt}
use Rattle.zic_compare.specs.Differences.{AreDifferences}
use Rattle.zic_compare.specs.Summary.{AgreeAt}
use Rattle.zic_layouts.specs.declared.compared.Compared.{Compared}
use Rattle.zic_posix.specs.declared.span.Instants.{Instants}
use Rattle.zic_tzif.specs.Answer.{IsBeforeLast}
use Rattle.zic_tzif.specs.Content.{Content}

-- a file doesn't differ from itself
abbrev pub NoFileDiffersFromItself : Type 0
NoFileDiffersFromItself = (content : Content) (compared : Compared) (bounds : Instants) → AreDifferences (pair content content compared) bounds []

-- no transition of the two files comes after the instant
pub record NoneComes (pair : Pair) (t : ℤ) : Type 0 where
  pub old : IsBeforeLast pair.old t → ⊥
  pub new : IsBeforeLast pair.new t → ⊥

-- 400 years, 146,097 days, after the last transition of two files decide: if the files agree at each instant of these they agree for ever,
-- and if they differ at one they do so again within each 400 years that follow.
pub record FourHundredYearsDecide : Type 0 where
  pub agree : (pair : Pair) (t : ℤ) → NoneComes pair t
      → ((u : ℤ) → t ≤ℤ u → u <ℤ (t +ℤ pos (146_097 * 86_400)) → AgreeAt pair u) → (u : ℤ) → t ≤ℤ u → AgreeAt pair u
  pub differ : (pair : Pair) (t : ℤ) → NoneComes pair t → (u : ℤ) → t ≤ℤ u → DifferAt pair u
      → (v : ℤ) → t ≤ℤ v → (later : ℤ) × (v <ℤ later) × (later ≤ℤ (v +ℤ pos (146_097 * 86_400))) × DifferAt pair later
