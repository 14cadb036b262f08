-- The instant of an UNTIL: zic(8), FILES. That it is always read by its own line, never by the line that follows, and with the
-- saving after the least number of occurrences that will do, is an own choice.
use Rattle.std.specs.Prelude.{◌≡◌, ℤ, pos, ◌<ℤ◌, ◌≤ℤ◌, List, ℕ, Option, Some, None}
use Rattle.zic_lines.specs.declared.rule_line.Rule.{Rule}
use Rattle.zic_lines.specs.declared.rules.Rules.{Rules}
use Rattle.zic_lines.specs.declared.rules.Rules.TheVariants.{Standard, Amount, Set}
use Rattle.zic_lines.specs.declared.until.Until.{Until}
use Rattle.zic_lines.specs.declared.zone_line.ZoneLine.{ZoneLine}
use Rattle.zic_states.specs.Occurrence.{RuleSet, Occurrence, IsOccurrence, nominal, nominal_second}
use Rattle.zic_states.specs.Order.{IsFirst, IsPredecessor, IsInstant, instant_by}

-- the occurrence after this one; after none, the first of all
abbrev pub IsNext : RuleSet → Option Occurrence → Occurrence → Type 0
IsNext set None next = IsOccurrence set next × IsFirst set next
IsNext set (Some o) next = IsOccurrence set next × IsPredecessor set next o

-- an occurrence of the set, or none yet
abbrev pub IsStage : RuleSet → Option Occurrence → Type 0
IsStage set None = Unit {0}
IsStage set (Some o) = IsOccurrence set o

-- the saving after it; 0 before the first
abbrev pub saved_after : Option Occurrence → ℤ
saved_after None = pos 0
saved_after (Some o) = o.rule.saving.seconds

-- c comes before b: none yet comes before each occurrence
abbrev pub ComesBefore : Option Occurrence → Option Occurrence → Type 0
ComesBefore c None = ⊥
ComesBefore None (Some b) = Unit {0}
ComesBefore (Some c) (Some b) = nominal c <ℤ nominal b

-- an UNTIL, read on a line of this standard offset with this saving
abbrev pub until_by : ℤ → Until → ℤ → ℤ
until_by offset until saved = instant_by until.moment.at.form offset saved (nominal_second (pos until.year) until.moment)

-- The reading stops after b: no occurrence follows it, or the next isn't before the instant so read.
abbrev pub Stops : RuleSet → ℤ → Until → Option Occurrence → Type 0
Stops set offset until b =
    (next : Occurrence) (u : ℤ) → IsNext set b next → IsInstant set offset next u → until_by offset until (saved_after b) ≤ℤ u

-- b is the first after which it stops
pub record IsReadAfter (set : RuleSet) (offset : ℤ) (until : Until) (b : Option Occurrence) : Type 0 where
  pub is : IsStage set b
  pub stops : Stops set offset until b
  pub first : (c : Option Occurrence) → IsStage set c → ComesBefore c b → Stops set offset until c → ⊥

-- the set of this name among these rules
abbrev pub set_of : List Rule → List ℕ → RuleSet
set_of rules name = record { rules = rules; name = name }

-- the saving at an UNTIL: none, the line's own amount, or that of its set
abbrev pub IsSavedAtUntil : List Rule → ℤ → Until → Rules → ℤ → Type 0
IsSavedAtUntil rules offset until Standard saved = saved ≡ pos 0
IsSavedAtUntil rules offset until (Amount saving) saved = saved ≡ saving.seconds
IsSavedAtUntil rules offset until (Set name) saved =
    (b : Option Occurrence) × IsReadAfter (set_of rules name) offset until b × (saved ≡ saved_after b)

-- the instant of the line's UNTIL
pub record IsUntil (rules : List Rule) (line : ZoneLine) (t : ℤ) : Type 0 where
  pub until : Until
  pub has : line.until ≡ Some until
  pub saved : ℤ
  pub is_saved : IsSavedAtUntil rules line.offset until line.rules saved
  pub is : t ≡ until_by line.offset until saved
