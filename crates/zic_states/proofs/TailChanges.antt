-- Between changes a zone shows one state.
use Rattle.std.proofs.Common.{◌≡◌, ◌<◌, ℕ, zero, suc, ◌+◌, Bool, true, false, List, length, ◌⊎◌, inl, inr, refl, sym, ap, subst, arith}
use Rattle.std.specs.Prelude.{ℤ, pos, ◌+ℤ◌, ◌-ℤ◌, ◌<ℤ◌, ◌≤ℤ◌, bytes_eq}
use Rattle.std.proofs.lemmas.Bool.{cases_Bool}
use Rattle.std.proofs.lemmas.Int.{ints, by_lt_z}
use borrow.Author.Differences.{up, down}
use Rattle.zic_lines.specs.declared.zone_line.ZoneLine.{ZoneLine}
use Rattle.zic_source.proofs.SameBytes.{bytes_eq_means, bytes_eq_itself}
use Rattle.zic_states.specs.Change.{IsChange, IsAfterChanges}
use Rattle.zic_states.specs.End.{IsEnd}
use Rattle.zic_states.specs.Fault.{HasNoLetter}
use Rattle.zic_states.specs.InForce.{InForce}
use Rattle.zic_states.specs.Laws.{IsOrderly}
use Rattle.zic_base.specs.State.{Shown}
use Rattle.zic_states.specs.Tail.{HasInForceFrom}
use Rattle.zic_states.specs.Zone.{Zone, Shows}
use Rattle.zic_states.proofs.SomeState.{some_state}
use Rattle.zic_states.proofs.TailForEver.{at_both}

-- ---- two states are equal or not

same_int_or_not : (x y : ℤ) → (x ≡ y) ⊎ (x ≡ y → ⊥)
same_int_or_not x y = by_lt_z x y
    (λ lt. inr (λ e. absurd (omega (arith, ints))))
    (λ ge. by_lt_z y x (λ gt. inr (λ e. absurd (omega (arith, ints)))) (λ le. inl (omega (arith, ints))))

same_flag_or_not : (x y : Bool) → (x ≡ y) ⊎ (x ≡ y → ⊥)
same_flag_or_not true true = inl refl
same_flag_or_not true false = inr (λ e. absurd cc)
same_flag_or_not false true = inr (λ e. absurd cc)
same_flag_or_not false false = inl refl

same_name_or_not : (x y : List ℕ) → (x ≡ y) ⊎ (x ≡ y → ⊥)
same_name_or_not x y =
    elim (cases_Bool (bytes_eq x y)) [
      | inl same ↦ inl (bytes_eq_means x y same)
      | inr other ↦ inr (λ e. let itself : bytes_eq x y ≡ true = subst (λ (z : List ℕ). bytes_eq x z ≡ true) e (bytes_eq_itself x) in absurd cc)
    ]

same_or_not : (a b : Shown) → (a ≡ b) ⊎ (a ≡ b → ⊥)
same_or_not a b =
    elim (same_int_or_not a.offset b.offset) [
      | inr other ↦ inr (λ e. other (ap (λ (s : Shown). s.offset) e))
      | inl offset ↦ elim (same_flag_or_not a.daylight b.daylight) [
        | inr other ↦ inr (λ e. other (ap (λ (s : Shown). s.daylight) e))
        | inl daylight ↦ elim (same_name_or_not a.name b.name) [
          | inr other ↦ inr (λ e. other (ap (λ (s : Shown). s.name) e))
          | inl name ↦ inl (λ k. record { offset = offset k; daylight = daylight k; name = name k })
        ]
      ]
    ]

-- ---- between changes

module _ (zone : Zone) (is_zone : zone.number < length zone.source.zones) (orderly : IsOrderly zone) (letters : HasNoLetter zone → ⊥) (end : ℤ) (is_end : IsEnd zone end) where
  showed_before : (t : ℤ) (state : Shown) → t <ℤ end → (IsChange zone t → ⊥) → Shows zone t state → Shows zone (t -ℤ pos 1) state
  showed_before t state lt none shows =
      let (earlier, showed) = some_state zone orderly.sets is_zone letters (t -ℤ pos 1) in
      elim (same_or_not earlier state) [
        | inl same ↦ subst (Shows zone (t -ℤ pos 1)) same showed
        | inr other ↦ absurd (none (record {
          end = end;
          is_end = is_end;
          before_end = lt;
          state = state;
          earlier = earlier;
          shows = shows;
          showed = showed;
          differs = λ e. other (sym e);
        }))
      ]

  stays_within : (n : ℕ) (s t : ℤ) → s ≤ℤ t → t ≤ℤ (s +ℤ pos n) → t <ℤ end → ((u : ℤ) → IsChange zone u → s <ℤ u → t <ℤ u)
      → (state : Shown) → Shows zone t state → Shows zone s state
  stays_within zero s t le near lt none state shows =
      let same : t ≡ s = omega (arith, ints) in
      subst (λ (x : ℤ). Shows zone x state) same shows
  stays_within (suc n) s t le near lt none state shows =
      by_lt_z s t
      (λ later. stays_within n s (t -ℤ pos 1) (omega (arith, ints)) (omega (arith, ints)) (omega (arith, ints))
      (λ u change after. let above = none u change after in omega (arith, ints))
      state
      (showed_before t state lt (λ change. let above = none t change later in absurd (omega (arith, ints))) shows))
      (λ ge.
      let same : t ≡ s = omega (arith, ints) in
      subst (λ (x : ℤ). Shows zone x state) same shows)

  stays : (s t : ℤ) → s ≤ℤ t → t <ℤ end → ((u : ℤ) → IsChange zone u → s <ℤ u → t <ℤ u) → (state : Shown) → Shows zone t state → Shows zone s state
  stays s t le lt none state shows = stays_within (up t + down s) s t le (omega (arith, ints)) lt none state shows

  shown_after : (line : ZoneLine) (in_force : InForce) → HasInForceFrom zone (end -ℤ pos 1) line in_force → (state : Shown) → Shows zone (end -ℤ pos 1) state
      → (t : ℤ) → IsAfterChanges zone t → Shows zone t state
  shown_after line in_force from state shown t after =
      by_lt_z t end
      (λ lt. stays t (end -ℤ pos 1) (omega (arith, ints)) (omega (arith, ints))
      (λ u change later. let not_after = after u change in absurd (omega (arith, ints)))
      state shown)
      (λ ge. record {
        line = shown.line;
        in_force = shown.in_force;
        keeps = at_both zone (end -ℤ pos 1) t line in_force (from (end -ℤ pos 1) (omega (arith, ints))) (from t (omega (arith, ints))) shown.line shown.in_force shown.keeps;
        offset = shown.offset;
        daylight = shown.daylight;
        name = shown.name;
      })

pub stays_since_change : (zone : Zone) → IsOrderly zone → zone.number < length zone.source.zones → (HasNoLetter zone → ⊥)
    → (end s t : ℤ) → IsEnd zone end → s ≤ℤ t → t <ℤ end → ((u : ℤ) → IsChange zone u → s <ℤ u → t <ℤ u)
    → (state : Shown) → Shows zone t state → Shows zone s state
stays_since_change zone orderly is_zone letters end s t is_end = stays zone is_zone orderly letters end is_end s t

pub one_state_after_changes : (zone : Zone) → IsOrderly zone → zone.number < length zone.source.zones → (HasNoLetter zone → ⊥)
    → (end : ℤ) (line : ZoneLine) (in_force : InForce) → IsEnd zone end → HasInForceFrom zone (end -ℤ pos 1) line in_force
    → (state : Shown) → Shows zone (end -ℤ pos 1) state → (t : ℤ) → IsAfterChanges zone t → Shows zone t state
one_state_after_changes zone orderly is_zone letters end line in_force is_end = shown_after zone is_zone orderly letters end is_end line in_force
