-- Two rules that follow each other in turn.
use Rattle.std.specs.Prelude.{◌≡◌, ◌≤◌, ℤ, pos, neg_ℤ, ◌+ℤ◌, ◌<ℤ◌, ◌≤ℤ◌, ℕ, List, Option, Some, unsigned_abs, slice_get}
use Rattle.std.specs.Int.{IsInRange, abs_diff}
use Rattle.std.specs.Option.{MatchOption}
use Rattle.zic_posix.specs.Footer.{TzString}
use Rattle.zic_calendar.specs.DayForm.{FormFits}
use Rattle.zic_lines.specs.declared.rule_line.Moment.{Moment}
use Rattle.zic_states.specs.Occurrence.{nominal_second}
use Rattle.zic_source.specs.Sound.{IsSoundMoment, IsWithinDay}
use Rattle.zic_lines.specs.declared.time.TheConstants.{GREATEST_OFFSET}
use Rattle.zic_rules.specs.declared.tail.TailRule.{TailRule}
use Rattle.zic_footer.specs.Making.{IsPair, IsWide}
use Rattle.zic_footer.specs.code.Edges.{edge_of, by_rules}
use Rattle.zic_footer.specs.declared.maker.Pair.{Pair}

-- a moment of every year
pub record IsYearly (moment : Moment) : Type 0 where
  pub sound : IsSoundMoment moment
  pub fits : (year : ℤ) → FormFits year moment.month moment.on

-- a rule of a sound zone's tail, on this standard offset
pub record IsSoundTail (standard : ℤ) (rule : TailRule) : Type 0 where
  pub yearly : IsYearly rule.moment
  pub saving : IsWithinDay rule.saving.seconds
  pub offset : unsigned_abs (standard +ℤ rule.saving.seconds) ≤ GREATEST_OFFSET

-- all rules of a sound zone's tail
pub record AreSoundTails (standard : ℤ) (rules : List TailRule) : Type 0 where
  pub within : IsWithinDay standard
  pub each : (k : ℕ) (rule : TailRule) → slice_get rules k ≡ Some rule → IsSoundTail standard rule

-- the days from the start of a week to a day of a month, or back
abbrev pub IsSmall : ℤ → Type 0
IsSmall shift = (neg_ℤ (pos 7) ≤ℤ shift) × (shift ≤ℤ pos 9)

-- Between the moment a of this year and that of the next lies the moment b of some year.
pub record LiesBetween (a b : Moment) (year : ℤ) : Type 0 where
  pub other : ℤ
  pub after : nominal_second year a <ℤ nominal_second other b
  pub before : nominal_second other b <ℤ nominal_second (year +ℤ pos 1) a

-- in every year between two of the one lies the other, and between two of the other the one
abbrev pub FollowInTurn : Moment → Moment → Type 0
FollowInTurn a b = (year : ℤ) → LiesBetween a b year × LiesBetween b a year

-- from each of the two months to the next of the other it is three months or more
abbrev pub AreMonthsApart : ℕ → ℕ → Type 0
AreMonthsApart m n = IsInRange 3 9 (abs_diff m n)

-- two rules of both flags that follow each other in turn, and whose edges can be said
pub record TakeTurns (standard : ℤ) (tails : List TailRule) (starting ending : TailRule) : Type 0 where
  pub pair : IsPair tails starting ending
  pub in_turn : FollowInTurn starting.moment ending.moment
  pub start : IsWide (edge_of standard starting ending.saving.seconds)
  pub stop : IsWide (edge_of standard ending starting.saving.seconds)

-- the two rules of a tail, if it has just two, of both flags
abbrev pub IsPairOf : List TailRule → Option Pair → Type 0
IsPairOf tails pair = MatchOption pair
    ((starting ending : TailRule) → IsPair tails starting ending → ⊥)
    (λ p. IsPair tails p.starting.now p.ending.now)

-- two sound rules
pub record IsSoundPair (standard : ℤ) (pair : Pair) : Type 0 where
  pub within : IsWithinDay standard
  pub starting : IsSoundTail standard pair.starting.now
  pub ending : IsSoundTail standard pair.ending.now

-- both edges of two rules can be said
pub record HasWideEdges (standard : ℤ) (pair : Pair) : Type 0 where
  pub start : IsWide (edge_of standard pair.starting.now pair.ending.now.saving.seconds)
  pub stop : IsWide (edge_of standard pair.ending.now pair.starting.now.saving.seconds)

-- a string by two rules of the tail in turn
abbrev pub IsMadeOf : ℤ → List TailRule → TzString → Type 0
IsMadeOf standard tails f = (starting ending : TailRule) × TakeTurns standard tails starting ending × (f ≡ by_rules standard starting ending)

-- no two rules of the tail take turns
abbrev pub NoneTakeTurns : ℤ → List TailRule → Type 0
NoneTakeTurns standard tails = (starting ending : TailRule) → TakeTurns standard tails starting ending → ⊥
