-- The tail of a timeline: the time from the explicit end on.
use Rattle.std.specs.Prelude.{◌≡◌, ◌≢◌, ◌≤◌, ◌<◌, ℕ, ℤ, pos, ◌+ℤ◌, ◌-ℤ◌, ◌≤ℤ◌, ◌⊎◌, List, [], ◌∷◌, length, All, AllPairs, Contains, Some, slice_get}
use Rattle.zic_base.specs.State.{Shown, shown}
use Rattle.zic_lines.specs.declared.rule_line.Rule.{Rule}
use Rattle.zic_lines.specs.declared.zone_line.ZoneLine.{ZoneLine}
use Rattle.zic_states.specs.OccurrenceLaws.{IsLastOccurrence}
use Rattle.zic_states.specs.Occurrence.{RuleSet, IsMember, Occurrence}
use Rattle.zic_states.specs.Abbreviation.{abbreviation}
use Rattle.zic_states.specs.Change.{IsAfterChanges}
use Rattle.zic_states.specs.End.{IsLastLine, IsEnd}
use Rattle.zic_states.specs.Tail.{IsContinuing, HasNoSet, HasLastSet, Alternate}
use Rattle.zic_states.specs.Until.{set_of}
use Rattle.zic_states.specs.Zone.{Zone, Shows}
use Rattle.zic_rules.specs.declared.tail.Tail.{Tail}
use Rattle.zic_rules.specs.declared.tail.Tail.TheVariants.{Constant, Rules}
use Rattle.zic_rules.specs.declared.tail.TailRule.{TailRule}

-- the numbers of all rules of the set that go on for ever, in line order
pub record AreContinuing (set : RuleSet) (numbers : List ℕ) : Type 0 where
  pub in_order : AllPairs (λ m n. m < n) numbers
  pub each : All (λ n. (rule : Rule) × IsMember set n rule × IsContinuing rule) numbers
  pub all : (n : ℕ) (rule : Rule) → IsMember set n rule → IsContinuing rule → Contains numbers n

-- a rule's moment and saving, and the abbreviation by the line's FORMAT once it has occurred
pub record IsTailRule (line : ZoneLine) (rule : Rule) (tail : TailRule) : Type 0 where
  pub moment : tail.moment ≡ rule.moment
  pub saving : tail.saving ≡ rule.saving
  pub name : abbreviation line.format (line.offset +ℤ rule.saving.seconds) rule.saving.daylight (Some rule.letter) ≡ Some tail.name

-- the state that is shown once such a rule has occurred, on this standard offset
abbrev pub tail_state : ℤ → TailRule → Shown
tail_state standard tail = record { offset = standard +ℤ tail.saving.seconds; daylight = tail.saving.daylight; name = tail.name }

-- one after another, these are the rules of these numbers
pub record AreTailRules (rules : List Rule) (line : ZoneLine) (numbers : List ℕ) (tails : List TailRule) : Type 0 where
  pub as_many : length tails ≡ length numbers
  pub each : (k n : ℕ) (rule : Rule) (tail : TailRule) → slice_get numbers k ≡ Some n → slice_get rules n ≡ Some rule
      → slice_get tails k ≡ Some tail → IsTailRule line rule tail

-- Two or more rules of the last line's set go on for ever: their numbers, the line's standard offset, and the first year after the
-- last that is named.
pub record IsTailBy (zone : Zone) (standard year : ℤ) (tails : List TailRule) : Type 0 where
  pub number : ℕ
  pub line : ZoneLine
  pub name : List ℕ
  pub last : ℤ
  pub last_set : HasLastSet zone number line name last
  pub of_line : standard ≡ line.offset
  pub after_last : year ≡ last +ℤ pos 1
  pub numbers : List ℕ
  pub continuing : AreContinuing (set_of zone.source.rules name) numbers
  pub rules : AreTailRules zone.source.rules line numbers tails
  pub several : 2 ≤ length numbers

-- At t the zone shows what the set's last occurrence at or before t begins, on this standard offset. The occurrence is of this year or a
-- later one, and of one of the rules with these numbers; the tail lists the rules in the order of their numbers.
pub record ShowsLast (zone : Zone) (set : RuleSet) (standard year : ℤ) (numbers : List ℕ) (tails : List TailRule) (t : ℤ) : Type 0 where
  pub occurrence : Occurrence
  pub instant : ℤ
  pub current : IsLastOccurrence set standard t occurrence instant
  pub in_years : year ≤ℤ occurrence.year
  pub place : ℕ
  pub number : slice_get numbers place ≡ Some occurrence.number
  pub tail : TailRule
  pub is_tail : slice_get tails place ≡ Some tail
  pub shows : Shows zone t (tail_state standard tail)

-- two rules, one of daylight saving time and one of standard time
abbrev pub AreOfBothFlags : List TailRule → Type 0
AreOfBothFlags tails = (a b : TailRule) × (tails ≡ a ∷ b ∷ []) × (a.saving.daylight ≢ b.saving.daylight)

-- one second before the explicit end, or later
abbrev pub IsFromEnd : Zone → ℤ → Type 0
IsFromEnd zone t = (end : ℤ) × IsEnd zone end × ((end -ℤ pos 1) ≤ℤ t)

-- A tail of rules: from one second before the explicit end on the zone shows what the last occurrence of its set begins. So it does from
-- the last change on, where there are two rules, of both flags, that alternate.
pub record IsRulesTail (zone : Zone) (standard year : ℤ) (tails : List TailRule) : Type 0 where
  pub by : IsTailBy zone standard year tails
  pub from_end : (t : ℤ) → IsFromEnd zone t → ShowsLast zone (set_of zone.source.rules by.name) standard year by.numbers tails t
  pub from_change : AreOfBothFlags tails → Alternate (set_of zone.source.rules by.name) by.last
      → (t : ℤ) → IsAfterChanges zone t → ShowsLast zone (set_of zone.source.rules by.name) standard year by.numbers tails t

-- Fewer than two rules of the last line's set go on for ever, or it has none.
pub record HasConstantTail (zone : Zone) : Type 0 where
  pub number : ℕ
  pub line : ZoneLine
  pub last : IsLastLine zone number line
  pub few : HasNoSet line.rules ⊎ ((name : List ℕ) × (year : ℤ) × (numbers : List ℕ)
      × HasLastSet zone number line name year × AreContinuing (set_of zone.source.rules name) numbers × (length numbers ≤ 1))

-- A constant tail: from one second before the end on, and from the last change on, the zone shows this.
pub record IsConstantTail (zone : Zone) (state : Shown) : Type 0 where
  pub few : HasConstantTail zone
  pub from_end : (t : ℤ) → IsFromEnd zone t → Shows zone t state
  pub from_change : (t : ℤ) → IsAfterChanges zone t → Shows zone t state

-- the meaning of a tail
abbrev pub IsTail : Zone → Tail → Type 0
IsTail zone (Constant state) = IsConstantTail zone (shown state)
IsTail zone (Rules standard year rules) = IsRulesTail zone standard year rules.now
