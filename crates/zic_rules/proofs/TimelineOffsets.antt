-- Which savings a line can have.
use Rattle.std.proofs.Common.{◌+◌, inl, inr, arith, get_or, ◌≡◌, ◌<◌, ◌≤◌, ℕ, List, length, Some, refl, sym, subst, ◌∙◌}
use Rattle.std.specs.Prelude.{ℤ, ◌+ℤ◌, Contains, slice_get, unsigned_abs}
use Rattle.std.proofs.lemmas.Bool.{cases_lt}
use Rattle.zic_lines.specs.declared.time.TheConstants.{GREATEST_OFFSET}
use Rattle.std.proofs.lemmas.Option.{same_Some, get_or_from_slice_get}
use Rattle.std.proofs.lemmas.List.Elements.{All-contains}
use Rattle.zic_lines.specs.declared.rule_line.Rule.{Rule}
use Rattle.zic_lines.specs.declared.rules.Rules.{Rules}
use Rattle.zic_lines.specs.declared.rules.Rules.TheVariants.{Set}
use Rattle.zic_lines.specs.declared.zone_line.ZoneLine.{ZoneLine}
use Rattle.zic_source.specs.Source.{set_rules}
use Rattle.zic_base.proofs.Elements.{get_contained}
use Rattle.zic_states.specs.Occurrence.{IsMember}
use Rattle.zic_states.proofs.Members.{IsMemberNumber, members, has_members}
use Rattle.zic_states.specs.Fault.{HasOffsetOutOfRange, IsSavingOf}
use Rattle.zic_states.specs.Until.{set_of}
use Rattle.zic_states.specs.Zone.{Zone, line_at}
use Rattle.zic_rules.specs.code.Shown.{IsInRangeOn, IsOutOfRangeOn, AreAllInRange, IsOneOutOfRange}

-- where no offset is out of range, each line's are within it
pub all_in_range : (zone : Zone) (number : ℕ) (line : ZoneLine) → line_at zone number ≡ Some line → (HasOffsetOutOfRange zone → ⊥)
    → IsInRangeOn zone.source.rules line
all_in_range zone number line at none saving is = elim (cases_lt GREATEST_OFFSET (unsigned_abs (line.offset +ℤ saving))) [
  | inl passes ↦ absurd (none record { number = number; line = line; is_line = at; saving = saving; is_saving = is; passes = passes })
  | inr within ↦ within
]

pub set_in_range : (rules : List Rule) (line : ZoneLine) (offset : ℤ) (name numbers : List ℕ) → offset ≡ line.offset → line.rules ≡ Set name
    → numbers ≡ set_rules name rules → AreAllInRange rules offset numbers (length numbers) → IsInRangeOn rules line
set_in_range rules line offset name numbers at_offset has_set e all saving is =
    let (number, rule, member, same) = subst (λ (r : Rules). IsSavingOf rules r saving) has_set is in
    let has = subst (λ (ns : List ℕ). Contains ns number) (sym e) (has_members (set_of rules name) number rule member) in
    let at = get_or_from_slice_get numbers has.0 number 0 (get_contained numbers number has) in
    let within = all has.0 rule has.1 (subst (λ (n : ℕ). slice_get rules n ≡ Some rule) (sym at) member.numbered) in
    let there = subst (λ (o : ℤ). unsigned_abs (o +ℤ rule.saving.seconds) ≤ GREATEST_OFFSET) at_offset within in
    subst (λ (s : ℤ). unsigned_abs (line.offset +ℤ s) ≤ GREATEST_OFFSET) (sym same) there

pub set_out_of_range : (rules : List Rule) (line : ZoneLine) (offset : ℤ) (name numbers : List ℕ) → offset ≡ line.offset → line.rules ≡ Set name
    → numbers ≡ set_rules name rules → IsOneOutOfRange rules offset numbers → IsOutOfRangeOn rules line
set_out_of_range rules line offset name numbers at_offset has_set e (number, rule, has, at, passes) =
    let set = set_of rules name in
    let has_too = subst (λ (ns : List ℕ). Contains ns number) e has in
    let of_set = All-contains (IsMemberNumber set) (set_rules name rules) number (members set) has_too in
    let same = same_Some of_set.rule rule (sym of_set.member.numbered ∙ at) in
    let member = subst (λ (r : Rule). IsMember set number r) same of_set.member in (
      rule.saving.seconds,
      subst (λ (r : Rules). IsSavingOf rules r rule.saving.seconds) (sym has_set) (number, rule, member, refl),
      subst (λ (o : ℤ). GREATEST_OFFSET < unsigned_abs (o +ℤ rule.saving.seconds)) at_offset passes,
    )

pub in_range_more : (rules : List Rule) (offset : ℤ) (numbers : List ℕ) (i : ℕ) (rule : Rule) → AreAllInRange rules offset numbers i
    → slice_get rules (get_or numbers i 0) ≡ Some rule → (saving : ℤ) → saving ≡ rule.saving.seconds → unsigned_abs (offset +ℤ saving) ≤ GREATEST_OFFSET
    → AreAllInRange rules offset numbers (i + 1)
in_range_more rules offset numbers i rule so_far at saving is within k other lt at_k = elim (cases_lt k i) [
  | inl less ↦ so_far k other less at_k
  | inr ge ↦
      let same : k ≡ i = omega (arith, lt, ge) in
      let at_i = subst (λ (j : ℕ). slice_get rules (get_or numbers j 0) ≡ Some other) same at_k in
      let one = same_Some rule other (sym at ∙ at_i) in
      let there = subst (λ (s : ℤ). unsigned_abs (offset +ℤ s) ≤ GREATEST_OFFSET) is within in
      subst (λ (r : Rule). unsigned_abs (offset +ℤ r.saving.seconds) ≤ GREATEST_OFFSET) one there
]
