-- Laws of what zones show: each is the contract of a function of the module `laws`.
use Rattle.std.specs.Prelude.{◌≡◌, ◌<◌, ℕ, ℤ, ◌<ℤ◌, List, length, Some}
use Rattle.zic_lines.specs.declared.rule_line.Rule.{Rule}
use Rattle.zic_lines.specs.declared.rules.Rules.TheVariants.{Set}
use Rattle.zic_lines.specs.declared.until.Until.{Until}
use Rattle.zic_lines.specs.declared.zone_line.ZoneLine.{ZoneLine}
use Rattle.zic_source.specs.Sound.{IsSoundSource}
use Rattle.zic_states.specs.Order.{IsInOrder}
use Rattle.zic_states.specs.Change.{Change, AreChanges, IsBeforeChanges, IsFirstState}
use Rattle.zic_states.specs.End.{IsEnd}
use Rattle.zic_states.specs.Fault.{HasRulesOutOfOrder, HasUntilNotRising, HasNoLetter, IsSound}
use Rattle.zic_states.specs.InForce.{InForce}
use Rattle.zic_base.specs.State.{Shown}
use Rattle.zic_states.specs.Until.{set_of, IsUntil}
use Rattle.zic_states.specs.Zone.{Zone, line_at, Governs, HasInForce, Shows}

-- a line whose set, if it has one, is in order on it ends at one instant at most
abbrev pub OneUntil : Type 0
OneUntil =
    (rules : List Rule) (line : ZoneLine)
    → ((name : List ℕ) → line.rules ≡ Set name → IsInOrder (set_of rules name) line.offset)
    → (t u : ℤ) → IsUntil rules line t → IsUntil rules line u → t ≡ u

-- The source is sound, and the set of each line of the zone is in order.
pub record HasSetsInOrder (zone : Zone) : Type 0 where
  pub sound : IsSoundSource zone.source
  pub in_order : HasRulesOutOfOrder zone → ⊥

-- Its sets are in order, and its UNTILs rise.
pub record IsOrderly (zone : Zone) : Type 0 where
  pub sets : HasSetsInOrder zone
  pub untils : HasUntilNotRising zone → ⊥

-- Each UNTIL of the zone has an instant.
abbrev pub EachUntilIsRead : Zone → Type 0
EachUntilIsRead zone =
    (i : ℕ) (line : ZoneLine) (until : Until) → line_at zone i ≡ Some line → line.until ≡ Some until
    → (t : ℤ) × IsUntil zone.source.rules line t

-- where each set is in order, each UNTIL has an instant
abbrev pub UntilsAreRead : Type 0
UntilsAreRead = (zone : Zone) → HasSetsInOrder zone → EachUntilIsRead zone

-- Some instant comes before the end and all changes.
abbrev pub HasBeginning : Zone → Type 0
HasBeginning zone = (end : ℤ) × (t : ℤ) × IsEnd zone end × (t <ℤ end) × IsBeforeChanges zone t

-- at an instant at most one line governs
abbrev pub OneLine : Type 0
OneLine =
    (zone : Zone) → IsOrderly zone
    → (t : ℤ) (i j : ℕ) (a b : ZoneLine) → Governs zone i a t → Governs zone j b t → (i ≡ j) × (a ≡ b)

-- at an instant a line has at most one thing in force
abbrev pub OneInForce : Type 0
OneInForce =
    (zone : Zone) → HasSetsInOrder zone
    → (i : ℕ) (line : ZoneLine) (t : ℤ) (a b : InForce) → line_at zone i ≡ Some line
    → HasInForce zone i line t a → HasInForce zone i line t b → a ≡ b

-- at an instant a zone shows at most one state
abbrev pub OneState : Type 0
OneState =
    (zone : Zone) → IsOrderly zone
    → (t : ℤ) (a b : Shown) → Shows zone t a → Shows zone t b → a ≡ b

-- A zone of the source whose sets are in order shows some state at each instant, unless FORMAT wants a letter where there is none.
abbrev pub SomeState : Type 0
SomeState =
    (zone : Zone) → HasSetsInOrder zone → zone.number < length zone.source.zones → (HasNoLetter zone → ⊥)
    → (t : ℤ) → (state : Shown) × Shows zone t state

-- A zone of a sound source to which no fault applies shows exactly one state at each instant.
abbrev pub OneStateAtEachInstant : Type 0
OneStateAtEachInstant =
    (zone : Zone) → IsSoundSource zone.source → zone.number < length zone.source.zones → IsSound zone
    → (t : ℤ) → (state : Shown) × Shows zone t state × ((other : Shown) → Shows zone t other → other ≡ state)

-- A zone has at most one explicit end.
abbrev pub OneEnd : Type 0
OneEnd = (zone : Zone) → HasSetsInOrder zone → (a b : ℤ) → IsEnd zone a → IsEnd zone b → a ≡ b

-- at most one list has all changes of a zone
abbrev pub OneListOfChanges : Type 0
OneListOfChanges =
    (zone : Zone) → IsOrderly zone
    → (a b : List Change) → AreChanges zone a → AreChanges zone b → a ≡ b

-- A zone has at most one first state, where some instant comes before its end and all changes.
abbrev pub OneFirstState : Type 0
OneFirstState =
    (zone : Zone) → IsOrderly zone → HasBeginning zone
    → (a b : Shown) → IsFirstState zone a → IsFirstState zone b → a ≡ b
