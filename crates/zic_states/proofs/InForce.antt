-- What a line keeps is one.
use Rattle.std.proofs.Common.{◌≡◌, ℕ, zero, suc, inl, inr, All, List, Option, Some, None, refl, sym, ap, subst, ◌∙◌, arith}
use Rattle.std.specs.Prelude.{ℤ, pos, ◌+ℤ◌, ◌-ℤ◌, ◌<ℤ◌}
use Rattle.std.specs.Int.{int_max}
use Rattle.std.proofs.lemmas.Int.{ints}
use Rattle.std.proofs.lemmas.Option.{same_Some}
use Rattle.zic_lines.specs.declared.rule_line.Rule.{Rule}
use Rattle.zic_lines.specs.declared.rules.Rules.{Rules}
use Rattle.zic_lines.specs.declared.rules.Rules.TheVariants.{Standard, Amount, Set}
use Rattle.zic_lines.specs.declared.zone_line.ZoneLine.{ZoneLine}
use Rattle.zic_source.specs.Sound.{IsSoundRule}
use Rattle.zic_states.specs.Occurrence.{RuleSet, Occurrence, IsOccurrence, nominal}
use Rattle.zic_states.specs.Order.{IsInOrder}
use Rattle.zic_states.specs.InForce.{InForce, IsLastOf, NoneIs, IsFirstStandard, IsLetterBefore, SetHasInForce, RulesHaveInForce, in_force_from}
use Rattle.zic_states.specs.Laws.{HasSetsInOrder}
use Rattle.zic_states.specs.Until.{set_of}
use Rattle.zic_states.specs.Zone.{Zone, line_at, HasInForceBy, HasOffset, IsWindowEnd, HasInForce}
use Rattle.zic_states.proofs.Instants.{instants_rise}
use Rattle.zic_states.proofs.Orders.{same_int, same_rule}
use Rattle.zic_states.proofs.Lines.{set_in_order, one_end_of, some_and_has}

same_in_force : (a b : InForce) → a.saving ≡ b.saving → a.daylight ≡ b.daylight → a.letter ≡ b.letter → a ≡ b
same_in_force a b saving daylight letter = λ i. record { saving = saving i; daylight = daylight i; letter = letter i }

module _ (set : RuleSet) (offset : ℤ) (sound : All IsSoundRule set.rules) (order : IsInOrder set offset) where
  tied_rule : (o p : Occurrence) → IsOccurrence set o → IsOccurrence set p → nominal o ≡ nominal p → o.rule ≡ p.rule
  tied_rule o p one other tied = same_rule set o p one other (order.differ o p one other tied)

  not_before_last : (IsSuch : ℤ → Type 0) (o p : Occurrence) → IsLastOf set offset IsSuch o → IsLastOf set offset IsSuch p
      → nominal o <ℤ nominal p → ⊥
  not_before_last IsSuch o p one other lt =
      let rise = instants_rise set offset o p one.instant other.instant sound order one.is other.is one.at other.at lt in
      let greatest = one.last p other.instant other.is other.at other.such in
      omega (arith, ints)

  -- the last of such occurrences has one rule
  last_rule : (IsSuch : ℤ → Type 0) (o p : Occurrence) → IsLastOf set offset IsSuch o → IsLastOf set offset IsSuch p → o.rule ≡ p.rule
  last_rule IsSuch o p one other =
      let tied = same_int (nominal o) (nominal p) (not_before_last IsSuch o p one other) (not_before_last IsSuch p o other one) in
      tied_rule o p one.is other.is tied

  -- the first whose flag is standard has one rule
  first_rule : (o p : Occurrence) → IsFirstStandard set o → IsFirstStandard set p → o.rule ≡ p.rule
  first_rule o p one other =
      let least = one.first p other.is other.standard in
      let least' = other.first o one.is one.standard in
      tied_rule o p one.is other.is (omega (arith, ints))

  one_letter_before : (a b : Option (List ℕ)) → IsLetterBefore set a → IsLetterBefore set b → a ≡ b
  one_letter_before None None one other = refl
  one_letter_before None (Some b) one other = absurd (one other.0 other.1.is other.1.standard)
  one_letter_before (Some a) None one other = absurd (other one.0 one.1.is one.1.standard)
  one_letter_before (Some a) (Some b) one other =
      ap Some (one.2 ∙ ap (λ (r : Rule). r.letter) (first_rule one.0 other.0 one.1 other.1) ∙ sym other.2)

  no_last : (IsSuch : ℤ → Type 0) (o : Occurrence) → IsLastOf set offset IsSuch o → NoneIs set offset IsSuch → ⊥
  no_last IsSuch o last none = none o last.instant last.is last.at last.such

  one_in_force_by_set : (IsSuch : ℤ → Type 0) (a b : InForce) → SetHasInForce set offset IsSuch a → SetHasInForce set offset IsSuch b → a ≡ b
  one_in_force_by_set IsSuch a b (inl (o, last, is)) (inl (p, last', is')) =
      is ∙ ap (λ (r : Rule). in_force_from (record { number = o.number; rule = r; year = o.year })) (last_rule IsSuch o p last last') ∙ sym is'
  one_in_force_by_set IsSuch a b (inl (o, last, is)) (inr none) = absurd (no_last IsSuch o last none.0)
  one_in_force_by_set IsSuch a b (inr none) (inl (o, last, is)) = absurd (no_last IsSuch o last none.0)
  one_in_force_by_set IsSuch a b (inr none) (inr none') =
      same_in_force a b (none.1 ∙ sym none'.1) (none.2 ∙ sym none'.2) (one_letter_before a.letter b.letter none.3 none'.3)

one_in_force_by_rules : (rules : List Rule) (line : ZoneLine) (r : Rules) (IsSuch : ℤ → Type 0) → All IsSoundRule rules
    → ((name : List ℕ) → r ≡ Set name → IsInOrder (set_of rules name) line.offset)
    → (a b : InForce) → RulesHaveInForce rules line r IsSuch a → RulesHaveInForce rules line r IsSuch b → a ≡ b
one_in_force_by_rules rules line Standard IsSuch sound order a b one other = one ∙ sym other
one_in_force_by_rules rules line (Amount saving) IsSuch sound order a b one other = one ∙ sym other
one_in_force_by_rules rules line (Set name) IsSuch sound order a b one other =
    one_in_force_by_set (set_of rules name) line.offset sound (order name refl) IsSuch a b one other

module _ (zone : Zone) (sets : HasSetsInOrder zone) where
  one_in_force_by : (i : ℕ) (line : ZoneLine) (t : ℤ) (a b : InForce) → line_at zone i ≡ Some line
      → HasInForceBy zone line t a → HasInForceBy zone line t b → a ≡ b
  one_in_force_by i line t a b e = one_in_force_by_rules zone.source.rules line line.rules _ sets.sound.rules (set_in_order zone sets i line e) a b

  -- where one thing is kept by the earlier line, the window has one end
  one_window_end : (i : ℕ) (later : ZoneLine) (t u : ℤ)
      → ((line : ZoneLine) (s : ℤ) (a b : InForce) → line_at zone i ≡ Some line → HasInForce zone i line s a → HasInForce zone i line s b → a ≡ b)
      → line_at zone (suc i) ≡ Some later
      → IsWindowEnd zone i (HasInForce zone i) later t → IsWindowEnd zone i (HasInForce zone i) later u → t ≡ u
  one_window_end i later t u one_before e one other =
      let start = one_end_of zone sets i one.start other.start one.starts other.starts in
      let (earlier, at, (in_force, keeps, is_before)) = some_and_has (line_at zone i) (λ l. HasOffset (HasInForce zone i) l (one.start -ℤ pos 1) one.before) one.is_before in
      let (earlier', at', (in_force', keeps', is_before')) = some_and_has (line_at zone i) (λ l. HasOffset (HasInForce zone i) l (other.start -ℤ pos 1) other.before) other.is_before in
      let line = same_Some earlier earlier' (sym at ∙ at') in
      let has_at = subst (λ (s : ℤ). HasInForce zone i earlier' (s -ℤ pos 1) in_force') (sym start) keeps' in
      let has_as_well = subst (λ (l : ZoneLine). HasInForce zone i l (one.start -ℤ pos 1) in_force') (sym line) has_at in
      let same = one_before earlier (one.start -ℤ pos 1) in_force in_force' at keeps has_as_well in
      let before : one.before ≡ other.before = is_before ∙ (λ k. (line k).offset +ℤ (same k).saving) ∙ sym is_before' in
      let (own, has_own, is_after) = one.is_after in
      let (own', has_own', is_after') = other.is_after in
      let same_own = one_in_force_by (suc i) later one.start own own' e has_own (subst (λ (s : ℤ). HasInForceBy zone later s own') (sym start) has_own') in
      let after : one.after ≡ other.after = is_after ∙ (λ k. later.offset +ℤ (same_own k).saving) ∙ sym is_after' in
      one.is ∙ (λ k. start k +ℤ int_max (pos 0) (before k -ℤ after k)) ∙ sym other.is

  pub one_in_force : (i : ℕ) (line : ZoneLine) (t : ℤ) (a b : InForce) → line_at zone i ≡ Some line
      → HasInForce zone i line t a → HasInForce zone i line t b → a ≡ b
  unfolding HasInForce
  one_in_force zero line t a b e one other = one_in_force_by zero line t a b e one other
  one_in_force (suc i) line t a b e (end, window, keeps) (end', window', keeps') =
      let same = one_window_end i line end end' (one_in_force i) e window window' in
      one_in_force_by (suc i) line (int_max t end) a b e keeps (subst (λ (s : ℤ). HasInForceBy zone line (int_max t s) b) (sym same) keeps')
