-- From when on two files differ, and from when on they agree for ever: own choice.
use Rattle.std.specs.Prelude.{ℤ, pos, ◌-ℤ◌, ◌<ℤ◌, ◌≤ℤ◌, MatchOption}
use Rattle.zic_compare.specs.Answers.{Pair, AreSeenAt, DifferAt}
use Rattle.zic_compare.specs.declared.summary.Summary.{Summary}
use Rattle.zic_posix.specs.declared.span.TheConstants.{MAX_INSTANT}
use Rattle.zic_tzif.specs.Answer.{answered}

-- the two files answer the same at the instant
abbrev pub AgreeAt : Pair → ℤ → Type 0
AgreeAt pair t = DifferAt pair t → ⊥

-- they do at this instant and at each later one that 64 bits hold
abbrev pub AgreeFrom : Pair → ℤ → Type 0
AgreeFrom pair t = (later : ℤ) → t ≤ℤ later → later ≤ℤ MAX_INSTANT → AgreeAt pair later

-- They differ again and again: after each instant there is one at which they do.
abbrev pub DifferForEver : Pair → Type 0
DifferForEver pair = (t : ℤ) → (later : ℤ) × (t <ℤ later) × DifferAt pair later

-- the first instant at which they differ, not before the one that is given
pub record IsFirstDifference (pair : Pair) (since first : ℤ) : Type 0 where
  pub from : since ≤ℤ first
  pub differ : DifferAt pair first
  pub before : (t : ℤ) → since ≤ℤ t → t <ℤ first → AgreeAt pair t

-- from the instant on they agree, and a second before it they don't
pub record IsEndOfDifference (pair : Pair) (t : ℤ) : Type 0 where
  pub differ : DifferAt pair (t -ℤ pos 1)
  pub agree : AgreeFrom pair t

-- the first difference of two files since an instant, what they answer there, and either where their differences end, or that they differ
-- again and again
pub record IsSummary (pair : Pair) (since : ℤ) (summary : Summary) : Type 0 where
  pub from : IsFirstDifference pair since summary.from
  pub answers : AreSeenAt pair summary.from (answered summary.old) (answered summary.new)
  pub until : MatchOption summary.until (DifferForEver pair) (IsEndOfDifference pair)
