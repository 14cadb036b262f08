-- The occurrences of one line.
use Rattle.std.specs.Prelude.{◌≡◌, ℕ, zero, suc, ℤ, pos, ◌+ℤ◌, ◌*◌, ◌<ℤ◌, List, [], Option, Some, None, All}
use Rattle.std.specs.Int.{int_max}
use Rattle.zic_lines.specs.declared.rule_line.Rule.{Rule}
use Rattle.zic_lines.specs.declared.rules.Rules.{Rules}
use Rattle.zic_lines.specs.declared.rules.Rules.TheVariants.{Standard, Amount, Set}
use Rattle.zic_lines.specs.declared.zone_line.ZoneLine.{ZoneLine}
use Rattle.zic_states.specs.declared.occurrence.TimedOccurrence.{TimedOccurrence}
use Rattle.zic_states.specs.Order.{IsInOrder, IsOutOfOrder}
use Rattle.zic_states.specs.Listing.{AreOccurrencesTo}
use Rattle.zic_states.specs.ByList.{AreRising, rule_at}
use Rattle.zic_states.specs.InForce.{InForce, IsInForceBy, IsRuleOf}
use Rattle.zic_states.specs.Until.{set_of}
use Rattle.zic_states.specs.Zone.{Zone, line_at, Governs, HasInForceBy, HasInForce, IsWindowEnd}
use Rattle.zic_lines.specs.Time.{IsWithin}
use Rattle.zic_rules.specs.declared.line.Period.{Period}
use Rattle.zic_rules.specs.code.Held.{IsFrom}

-- where RULES name a set, it is in order on a line of this standard offset
abbrev pub IsOrderedOn : List Rule → ℤ → Rules → Type 0
IsOrderedOn rules offset Standard = Unit {0}
IsOrderedOn rules offset (Amount saving) = Unit {0}
IsOrderedOn rules offset (Set name) = IsInOrder (set_of rules name) offset

-- where RULES name a set, it is out of order on a line of this standard offset
abbrev pub IsDisorderedOn : List Rule → ℤ → Rules → Type 0
IsDisorderedOn rules offset Standard = ⊥
IsDisorderedOn rules offset (Amount saving) = ⊥
IsDisorderedOn rules offset (Set name) = IsOutOfOrder (set_of rules name) offset

-- where RULES name a set, all its occurrences of nominal seconds before the year, and perhaps some more; else none
abbrev pub AreOccurrencesOn : List Rule → ℤ → ℕ → Rules → List TimedOccurrence → Type 0
AreOccurrencesOn rules offset year Standard xs = xs ≡ []
AreOccurrencesOn rules offset year (Amount saving) xs = xs ≡ []
AreOccurrencesOn rules offset year (Set name) xs = AreOccurrencesTo (set_of rules name) offset year xs

-- The last of these occurrences that isn't after an instant says what the line has in force by itself then, at instants before the bound.
pub record GivesInForce (zone : Zone) (bound : ℤ) (line : ZoneLine) (xs : List TimedOccurrence) : Type 0 where
  pub rising : AreRising xs
  pub is_rule : (t : ℤ) → IsRuleOf zone.source.rules line.rules (rule_at xs t)
  pub keeps : (t : ℤ) (in_force : InForce) → t <ℤ bound → IsInForceBy zone.source.rules line.rules (rule_at xs t) in_force → HasInForceBy zone line t in_force

-- the end of the window of the line of this number; the Zone line has none
abbrev pub IsEndOfWindow : Zone → ℕ → ZoneLine → ℤ → Type 0
IsEndOfWindow zone zero line end = ⊥
IsEndOfWindow zone (suc i) line end = IsWindowEnd zone i (HasInForce zone i) line end

-- five days after a start, when each window is over, or a later end
abbrev pub bound_of : Option ℤ → ℤ → ℤ
bound_of None end = end
bound_of (Some start) end = int_max end (start +ℤ pos (5 * 86_400))

-- The line of this number governs from its start to its end, and the occurrences before the end say what is in force.
pub record IsLineTo (zone : Zone) (number : ℕ) (start : Option ℤ) (end : ℤ) (mine : List TimedOccurrence) : Type 0 where
  pub governs : (line : ZoneLine) → line_at zone number ≡ Some line
      → (t : ℤ) → IsFrom start t → t <ℤ end → Governs zone number line t
  pub gives : (line : ZoneLine) → line_at zone number ≡ Some line → GivesInForce zone (bound_of start end) line mine
  pub before_end : All (λ x. x.instant <ℤ end) mine

-- the period of this line from an occurrence on
abbrev pub period_at : ℕ → TimedOccurrence → Period
period_at line x = record { from = x.instant; line = line; rule = Some x.rule }

-- the line's standard offset and what is in force by this rule, together; at most 48 hours either way
pub record IsTotalOffset (rules : List Rule) (line : ZoneLine) (rule : Option ℕ) (total : ℤ) : Type 0 where
  pub in_force : InForce
  pub is_in_force : IsInForceBy rules line.rules rule in_force
  pub is : total ≡ line.offset +ℤ in_force.saving
  pub within : IsWithin 172_800 total
