-- The last line of a zone, and where it holds by the rules that go on for ever.
use Rattle.std.proofs.Common.{◌≡◌, ◌≤◌, ℕ, inl, inr, List, Some, refl, sym, ap, subst, ◌∙◌, arith}
use Rattle.std.specs.Prelude.{ℤ, pos, ◌+ℤ◌, unsigned_abs}
use Rattle.std.proofs.lemmas.Bool.{cases_lt}
use Rattle.std.proofs.lemmas.Int.{ints}
use Rattle.std.proofs.lemmas.Option.{same_Some}
use Rattle.zic_base.specs.declared.fault.Kind.{Kind}
use Rattle.zic_lines.specs.declared.rule_line.Rule.{Rule}
use Rattle.zic_lines.specs.declared.rules.Rules.{Rules}
use Rattle.zic_lines.specs.declared.rules.Rules.TheVariants.{Set}
use Rattle.zic_lines.specs.declared.zone_line.ZoneLine.{ZoneLine}
use Rattle.zic_lines.specs.declared.time.TheConstants.{GREATEST_OFFSET}
use Rattle.zic_states.specs.Occurrence.{IsMember, year_second}
use Rattle.zic_states.specs.End.{IsLastLine, IsEndBy, IsEnd}
use Rattle.zic_states.specs.Fault.{HasOffsetOutOfRange, IsSavingOf}
use Rattle.zic_states.specs.InForce.{InForce, IsRuleOf, IsInForceBy, in_force_of}
use Rattle.zic_states.specs.Laws.{IsOrderly}
use Rattle.zic_states.specs.Tail.{IsContinuing, HasLastSet}
use Rattle.zic_states.specs.Until.{set_of}
use Rattle.zic_states.specs.Zone.{Zone, line_at, Governs, HasInForce, ZoneHasInForce}
use Rattle.zic_states.proofs.Governing.{one_line}
use Rattle.zic_states.proofs.Lines.{last_line}
use Rattle.zic_states.proofs.Orders.{same_number}
use Rattle.zic_states.proofs.TailInForce.{given, has_from_last}
use Rattle.zic_states.proofs.TailLine.{governs_from_start}
use Rattle.zic_states.proofs.TailSet.{rule_in, own_instant}
use Rattle.zic_states.proofs.TailWindow.{begun_when_settled}
use Rattle.zic_rules.specs.code.Shown.{IsHeld, IsUnnamed}
use Rattle.zic_rules.specs.code.Tail.{IsRefusedOnce}
use Rattle.zic_rules.proofs.TimelineStates.{unnamed_at, unnamed_from}

module _ (zone : Zone) (orderly : IsOrderly zone) (number : ℕ) (line : ZoneLine) (last : IsLastLine zone number line) where
  -- no other line is the last
  pub one_last : (i : ℕ) (other : ZoneLine) → IsLastLine zone i other → (i ≡ number) × (other ≡ line)
  one_last i other last' =
      let same = same_number i number
      (last_line zone orderly.sets i number other line last'.is_line last.is_line last'.no_until)
      (last_line zone orderly.sets number i line other last.is_line last'.is_line last.no_until) in
      (same, same_Some other line (sym last'.is_line ∙ ap (line_at zone) same ∙ last.is_line))

  -- so the end is by its RULES
  pub end_by : (end : ℤ) → IsEnd zone end → IsEndBy zone number line.rules end
  end_by end (i, other, last', by) =
      let (same, is) = one_last i other last' in
      subst (λ (l : ZoneLine). IsEndBy zone number l.rules end) is (subst (λ (n : ℕ). IsEndBy zone n other.rules end) same by)

  -- where it governs, it keeps what the zone does
  line_has : (t : ℤ) (in_force : InForce) → Governs zone number line t → ZoneHasInForce zone t line in_force → HasInForce zone number line t in_force
  line_has t in_force governs keeps =
      let (same, same_line) = one_line zone orderly t keeps.number number line line keeps.governs governs in
      subst (λ (i : ℕ). HasInForce zone i line t in_force) same keeps.keeps

  module _ (end : ℤ) (is_end : IsEnd zone end) (name : List ℕ) (has_set : line.rules ≡ Set name) where
    -- the last year that it names
    pub last_set : (year : ℤ) × HasLastSet zone number line name year × (end ≡ year_second (year +ℤ pos 3))
    last_set =
        let (year, last_year, is) = subst (λ (says : Rules). IsEndBy zone number says end) has_set (end_by end is_end) in
        (year, record { is_last = last; has_set = has_set; last_year = last_year }, is)

    module _ (n : ℕ) (rule : Rule) (member : IsMember (set_of zone.source.rules name) n rule) where
      -- what is kept by the rule of this number
      by_rule : (in_force : InForce) → IsInForceBy zone.source.rules line.rules (Some n) in_force → in_force ≡ in_force_of rule
      by_rule in_force is_in_force =
          let (other, is, e) = subst (λ (says : Rules). IsInForceBy zone.source.rules says (Some n) in_force) has_set is_in_force in
          e ∙ ap in_force_of (same_Some other rule (sym is.numbered ∙ member.numbered))

      -- at some instant it holds by a rule that goes on for ever
      pub held_for_ever : IsContinuing rule → IsHeld zone number (Some n)
      held_for_ever continues =
          let (year, tail, is) = last_set in
          let (later, u, is_one, at, late, before) = own_instant (set_of zone.source.rules name) line.offset year
          (given zone orderly number line name year tail) n rule member continues in
          let own = has_from_last zone orderly number line name year tail u (rule_in n rule later) u (omega (arith, ints))
          (record { is = is_one; instant = at; not_after = omega (arith, ints); last = λ q v is_q at_v not_after. not_after }) in
          let governs : Governs zone number line u = governs_from_start zone number line u last
          (begun_when_settled zone orderly.sets number name year u tail.last_year (omega (arith, ints))) in
          let keeps = line_has u (in_force_of rule) governs own.keeps in (
            u,
            record {
              line = line;
              governs = governs;
              of_line = subst (λ (says : Rules). IsRuleOf zone.source.rules says (Some n)) (sym has_set) (rule, member);
              keeps = λ in_force is_in_force. subst (λ (k : InForce). HasInForce zone number line u k) (sym (by_rule in_force is_in_force)) keeps;
            },
          )

      -- where FORMAT gives no abbreviation by it, the zone lacks one
      pub unnamed_for_ever : IsContinuing rule → (reason : Kind) → IsRefusedOnce line rule reason → IsUnnamed zone reason
      unnamed_for_ever continues reason refused =
          let held = held_for_ever continues in
          unnamed_from zone number (Some n) reason held
          (unnamed_at zone number (Some n) line reason last.is_line held record {
            in_force = in_force_of rule;
            is_in_force = subst (λ (says : Rules). IsInForceBy zone.source.rules says (Some n) (in_force_of rule)) (sym has_set) (rule, member, refl);
            offset = line.offset +ℤ rule.saving.seconds;
            total = refl;
            refused = refused;
          })

      -- the offset by it is within 24 hours
      pub offset_within : (HasOffsetOutOfRange zone → ⊥) → unsigned_abs (line.offset +ℤ rule.saving.seconds) ≤ GREATEST_OFFSET
      offset_within in_range = elim (cases_lt GREATEST_OFFSET (unsigned_abs (line.offset +ℤ rule.saving.seconds))) [
        | inl passes ↦ absurd (in_range record {
          number = number;
          line = line;
          is_line = last.is_line;
          saving = rule.saving.seconds;
          is_saving = subst (λ (says : Rules). IsSavingOf zone.source.rules says rule.saving.seconds) (sym has_set) (n, rule, member, refl);
          passes = passes;
        })
        | inr within ↦ within
      ]
