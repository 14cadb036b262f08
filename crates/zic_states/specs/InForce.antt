-- The saving, flag and letter that are in force by the RULES of a line: zic(8), FILES. Own choice: nothing is saved before the first occurrence,
-- even if the first rule of standard time has a saving.
use Rattle.std.specs.Prelude.{◌≡◌, ℤ, pos, ◌≤ℤ◌, Bool, false, List, ℕ, Option, Some, None, IfSome, ◌⊎◌}
use Rattle.zic_lines.specs.declared.rule_line.Rule.{Rule}
use Rattle.zic_lines.specs.declared.rules.Rules.{Rules}
use Rattle.zic_lines.specs.declared.rules.Rules.TheVariants.{Standard, Amount, Set}
use Rattle.zic_lines.specs.declared.zone_line.ZoneLine.{ZoneLine}
use Rattle.zic_states.specs.Occurrence.{RuleSet, IsMember, Occurrence, IsOccurrence, nominal}
use Rattle.zic_states.specs.Order.{IsInstant}
use Rattle.zic_states.specs.Until.{set_of}

-- the saving that is added to standard time, whether that is daylight saving time, and the letter for `%s`, if there is one
pub record InForce : Type 0 where
  pub saving : ℤ
  pub daylight : Bool
  pub letter : Option (List ℕ)

-- the last of the occurrences whose instants are such
pub record IsLastOf (set : RuleSet) (offset : ℤ) (IsSuch : ℤ → Type 0) (o : Occurrence) : Type 0 where
  pub is : IsOccurrence set o
  pub instant : ℤ
  pub at : IsInstant set offset o instant
  pub such : IsSuch instant
  pub last : (q : Occurrence) (u : ℤ) → IsOccurrence set q → IsInstant set offset q u → IsSuch u → u ≤ℤ instant

-- No occurrence has such an instant.
abbrev pub NoneIs : RuleSet → ℤ → (ℤ → Type 0) → Type 0
NoneIs set offset IsSuch = (q : Occurrence) (u : ℤ) → IsOccurrence set q → IsInstant set offset q u → IsSuch u → ⊥

-- the first occurrence whose flag is standard
pub record IsFirstStandard (set : RuleSet) (o : Occurrence) : Type 0 where
  pub is : IsOccurrence set o
  pub standard : o.rule.saving.daylight ≡ false
  pub first : (q : Occurrence) → IsOccurrence set q → q.rule.saving.daylight ≡ false → nominal o ≤ℤ nominal q

-- the letter before all occurrences: that of the first whose flag is standard, and none where there is no such one
abbrev pub IsLetterBefore : RuleSet → Option (List ℕ) → Type 0
IsLetterBefore set None = (o : Occurrence) → IsOccurrence set o → o.rule.saving.daylight ≡ false → ⊥
IsLetterBefore set (Some letter) = (o : Occurrence) × IsFirstStandard set o × (letter ≡ o.rule.letter)

-- the saving, flag and letter of a rule once it has occurred
abbrev pub in_force_of : Rule → InForce
in_force_of rule = record { saving = rule.saving.seconds; daylight = rule.saving.daylight; letter = Some rule.letter }

-- the saving, flag and letter that an occurrence begins
abbrev pub in_force_from : Occurrence → InForce
in_force_from o = in_force_of o.rule

-- A set has this in force by the last occurrence whose instant is such; before all, standard time with the letter before all.
abbrev pub SetHasInForce : RuleSet → ℤ → (ℤ → Type 0) → InForce → Type 0
SetHasInForce set offset IsSuch in_force =
    ((o : Occurrence) × IsLastOf set offset IsSuch o × (in_force ≡ in_force_from o))
    ⊎ (NoneIs set offset IsSuch × (in_force.saving ≡ pos 0) × (in_force.daylight ≡ false) × IsLetterBefore set in_force.letter)

-- The RULES of a line have this in force by the last occurrence whose instant is such: standard time, the amount, or what the set has.
abbrev pub RulesHaveInForce : List Rule → ZoneLine → Rules → (ℤ → Type 0) → InForce → Type 0
RulesHaveInForce rules line Standard IsSuch in_force = in_force ≡ record { saving = pos 0; daylight = false; letter = None }
RulesHaveInForce rules line (Amount saving) IsSuch in_force = in_force ≡ record { saving = saving.seconds; daylight = saving.daylight; letter = None }
RulesHaveInForce rules line (Set name) IsSuch in_force = SetHasInForce (set_of rules name) line.offset IsSuch in_force

-- This is in force by the rule of this number. Without a number: what is in force before all occurrences.
abbrev pub IsInForceBy : List Rule → Rules → Option ℕ → InForce → Type 0
IsInForceBy rules Standard number in_force = in_force ≡ record { saving = pos 0; daylight = false; letter = None }
IsInForceBy rules (Amount saving) number in_force = in_force ≡ record { saving = saving.seconds; daylight = saving.daylight; letter = None }
IsInForceBy rules (Set name) None in_force = (in_force.saving ≡ pos 0) × (in_force.daylight ≡ false) × IsLetterBefore (set_of rules name) in_force.letter
IsInForceBy rules (Set name) (Some number) in_force = (rule : Rule) × IsMember (set_of rules name) number rule × (in_force ≡ in_force_of rule)

-- the number of a rule of the set, where RULES name a set
abbrev pub IsNumberOf : List Rule → Rules → ℕ → Type 0
IsNumberOf rules Standard number = Unit {0}
IsNumberOf rules (Amount saving) number = Unit {0}
IsNumberOf rules (Set name) number = (rule : Rule) × IsMember (set_of rules name) number rule

-- the same, if there is a number
abbrev pub IsRuleOf : List Rule → Rules → Option ℕ → Type 0
IsRuleOf rules says number = IfSome number (λ n. IsNumberOf rules says n)
