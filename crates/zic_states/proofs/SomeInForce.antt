-- At each instant a line keeps something.
use Rattle.std.proofs.Common.{◌≡◌, ℕ, zero, suc, All, inl, inr, List, Option, Some, None, refl, sym, subst, arith, ℤ, pos, ◌+ℤ◌, ◌-ℤ◌, ◌≤ℤ◌, ◌↔◌, false}
use Rattle.std.specs.Prelude.{IsSomeAnd}
use Rattle.std.specs.Int.{int_max, int_min}
use Rattle.std.proofs.lemmas.Int.{ints, clamps}
use Rattle.zic_lines.specs.declared.rule_line.Rule.{Rule}
use Rattle.zic_lines.specs.declared.rules.Rules.{Rules}
use Rattle.zic_lines.specs.declared.rules.Rules.TheVariants.{Standard, Amount, Set}
use Rattle.zic_lines.specs.declared.zone_line.ZoneLine.{ZoneLine}
use Rattle.zic_source.specs.Sound.{IsSoundRule, IsWithinDay}
use Rattle.zic_states.specs.Occurrence.{RuleSet}
use Rattle.zic_states.specs.Order.{IsInOrder}
use Rattle.zic_states.proofs.Instants.{last_not_after}
use Rattle.zic_states.specs.code.Listed.{IsLimit}
use Rattle.zic_states.specs.InForce.{InForce, SetHasInForce, RulesHaveInForce, in_force_from}
use Rattle.zic_states.specs.Laws.{HasSetsInOrder}
use Rattle.zic_states.specs.Until.{set_of}
use Rattle.zic_states.specs.Zone.{Zone, line_at, IsNotOver, HasInForceBy, HasOffset, IsWindowEnd, HasInForce}
use Rattle.zic_states.proofs.ByList.{limit_without_until, limit_at_end}
use Rattle.zic_states.proofs.FirstLetter.{some_letter}
use Rattle.zic_states.proofs.Lines.{sound_line, set_in_order, line_before, until_before, ends_at}
use Rattle.zic_states.proofs.Ordered.{IsOrdered}
use Rattle.zic_states.proofs.Untils.{until_or_none, untils_are_read, not_over_until}

-- ---- what RULES keep, where such instants are those up to m

-- the instants that are such are those up to m
abbrev AreUpTo : (ℤ → Type 0) → ℤ → Type 0
AreUpTo IsSuch m = (u : ℤ) → IsSuch u ↔ (u ≤ℤ m)

set_has : (set : RuleSet) (offset : ℤ) (IsSuch : ℤ → Type 0) (m : ℤ) → IsOrdered set offset → AreUpTo IsSuch m → (in_force : InForce) × SetHasInForce set offset IsSuch in_force
set_has set offset IsSuch m given up_to =
    elim (last_not_after set offset m given.sound given.within given.order) [
      | inl (o, t, last) ↦ (
        in_force_from o,
        inl (
          o,
          record {
            is = last.is;
            instant = t;
            at = last.instant;
            such = (up_to t).1 last.not_after;
            last = λ q u is at such. last.last q u is at ((up_to u).0 such);
          },
          refl,
        ),
      )
      | inr after ↦
          let (letter, before) = some_letter set given.sound in (
            record { saving = pos 0; daylight = false; letter = letter },
            inr (
              λ q u is at such.
                  let lt = after q u is at in
                  let le = (up_to u).0 such in
                  omega (arith, ints),
              refl,
              refl,
              before,
            ),
          )
    ]

rules_have : (rules : List Rule) (line : ZoneLine) (says : Rules) (IsSuch : ℤ → Type 0) (m : ℤ) → All IsSoundRule rules → IsWithinDay line.offset
    → ((name : List ℕ) → says ≡ Set name → IsInOrder (set_of rules name) line.offset) → AreUpTo IsSuch m
    → (in_force : InForce) × RulesHaveInForce rules line says IsSuch in_force
rules_have rules line Standard IsSuch m sound within order up_to = (record { saving = pos 0; daylight = false; letter = None }, refl)
rules_have rules line (Amount saving) IsSuch m sound within order up_to =
    (record { saving = saving.seconds; daylight = saving.daylight; letter = None }, refl)
rules_have rules line (Set name) IsSuch m sound within order up_to =
    set_has (set_of rules name) line.offset IsSuch m (record { sound = sound; within = within; order = order name refl }) up_to

-- ---- what a line keeps

-- the instants up to t at which the line isn't over are those up to t and before its limit
up_to_limit : (zone : Zone) (line : ZoneLine) (limit t : ℤ) → IsLimit zone line limit t
    → AreUpTo (λ u. (u ≤ℤ t) × IsNotOver zone line u) (int_min t (limit -ℤ pos 1))
up_to_limit zone line limit t limits u = (
  λ such.
      let le = such.0 in
      let lt = (limits u le).0 such.1 in
      omega (arith, ints, clamps),
  λ le.
      let not_after : u ≤ℤ t = omega (arith, ints, clamps) in
      (not_after, (limits u not_after).1 (omega (arith, ints, clamps))),
)

module _ (zone : Zone) (sets : HasSetsInOrder zone) where
  some_limit : (i : ℕ) (line : ZoneLine) (t : ℤ) → line_at zone i ≡ Some line → (limit : ℤ) × IsLimit zone line limit t
  some_limit i line t at =
      elim (until_or_none line.until) [
        | inl none ↦ (t +ℤ pos 1, limit_without_until zone line (t +ℤ pos 1) t none (omega (arith, ints)))
        | inr (until, has) ↦
            let (end, is) = untils_are_read zone sets i line until at has in
            (end, limit_at_end zone line end t (not_over_until zone sets i line until end at has is))
      ]

  some_in_force_by : (i : ℕ) (line : ZoneLine) (t : ℤ) → line_at zone i ≡ Some line → (in_force : InForce) × HasInForceBy zone line t in_force
  some_in_force_by i line t at =
      let (limit, limits) = some_limit i line t at in
      rules_have zone.source.rules line line.rules (λ u. (u ≤ℤ t) × IsNotOver zone line u) (int_min t (limit -ℤ pos 1)) sets.sound.rules
      (sound_line zone sets i line at).offset (set_in_order zone sets i line at) (up_to_limit zone line limit t limits)

  -- the window of a line that follows another
  some_window_end : (i : ℕ) (earlier later : ZoneLine) → line_at zone i ≡ Some earlier → line_at zone (suc i) ≡ Some later
      → ((t : ℤ) → (in_force : InForce) × HasInForce zone i earlier t in_force) → (end : ℤ) × IsWindowEnd zone i (HasInForce zone i) later end
  some_window_end i earlier later at at_later keeps =
      let (until, has) = until_before zone sets i (suc i) earlier later at at_later (omega arith) in
      let (start, is) = untils_are_read zone sets i earlier until at has in
      let (in_force, in_force_before) = keeps (start -ℤ pos 1) in
      let (by_itself, in_force_by_itself) = some_in_force_by (suc i) later start at_later in (
        start +ℤ int_max (pos 0) ((earlier.offset +ℤ in_force.saving) -ℤ (later.offset +ℤ by_itself.saving)),
        record {
          start = start;
          starts = ends_at zone sets i earlier start at is;
          before = earlier.offset +ℤ in_force.saving;
          is_before = subst (λ (o : Option ZoneLine). IsSomeAnd o (λ l. HasOffset (HasInForce zone i) l (start -ℤ pos 1) (earlier.offset +ℤ in_force.saving))) (sym at)
              (in_force, in_force_before, refl);
          after = later.offset +ℤ by_itself.saving;
          is_after = (by_itself, in_force_by_itself, refl);
          is = refl;
        },
      )

  pub some_in_force : (i : ℕ) (line : ZoneLine) (t : ℤ) → line_at zone i ≡ Some line → (in_force : InForce) × HasInForce zone i line t in_force
  unfolding HasInForce
  some_in_force zero line t at = some_in_force_by zero line t at
  some_in_force (suc i) line t at =
      let (earlier, at_earlier) = line_before zone sets i (suc i) line at (omega arith) in
      let (end, window) = some_window_end i earlier line at_earlier at (λ u. some_in_force i earlier u at_earlier) in
      let (in_force, keeps) = some_in_force_by (suc i) line (int_max t end) at in
      (in_force, (end, window, keeps))
