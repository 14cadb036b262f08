-- Each occurrence has an instant; where a set is in order, instants rise, and each instant has a last occurrence not after it.
use Rattle.std.proofs.Common.{◌≡◌, ℕ, zero, suc, ◌+◌, ◌*◌, All, ◌⊎◌, inl, inr, refl, subst, arith, ℤ, pos, ◌+ℤ◌, ◌<ℤ◌, ◌≤ℤ◌}
use Rattle.std.proofs.lemmas.Int.{ints, by_lt_z}
use borrow.Author.Differences.{up, down}
use Rattle.zic_source.specs.Sound.{IsSoundRule, IsWithinDay}
use Rattle.zic_states.specs.Occurrence.{RuleSet, Occurrence, IsOccurrence, nominal, year_second}
use Rattle.zic_states.specs.Order.{IsSavedBefore, IsInstant, IsInOrder, IsOutOfOrder}
use Rattle.zic_states.specs.OccurrenceLaws.{IsLastOccurrence}
use Rattle.zic_states.proofs.Bounds.{two_years, years_apart, instant_from}
use Rattle.zic_states.proofs.Same.{same_occurrence, one_instant}
use Rattle.zic_states.proofs.Search.{IsSearchable, greatest_or_none}

-- ---- instants exist

-- an occurrence is the first, or one comes before it
pub saved_before : (set : RuleSet) (o : Occurrence) → All IsSoundRule set.rules → IsOccurrence set o → (saved : ℤ) × IsSavedBefore set o saved
saved_before set o sound is =
    let search : IsSearchable set (λ q. IsOccurrence set q × (nominal q <ℤ nominal o)) (up o.year + 2) = record {
      decide = λ q is_q. by_lt_z (nominal q) (nominal o) (λ lt. inl (is_q, lt)) (λ ge. inr (λ h. absurd (omega (arith, ints, ge, h.1))));
      is = λ q h. h.0;
      ends = λ q h. by_lt_z q.year (pos (up o.year + 2)) (λ lt. lt)
          (λ ge. absurd (omega (arith, ints, h.1, two_years set o q sound is h.0 (omega (arith, ints)))));
    } in
    elim (greatest_or_none set _ _ search) [
      | inl found ↦ (found.0.rule.saving.seconds, inr (found.0, record { is = found.1.holds.0; earlier = found.1.holds.1; greatest = λ q is_q lt. found.1.bound q (is_q, lt) }, refl))
      | inr none ↦ (pos 0, inl (λ q is_q. by_lt_z (nominal q) (nominal o) (λ lt. absurd (none q (is_q, lt))) (λ ge. ge), refl))
    ]

pub some_instant : (set : RuleSet) (offset : ℤ) (o : Occurrence) → All IsSoundRule set.rules → IsOccurrence set o → (t : ℤ) × IsInstant set offset o t
some_instant set offset o sound is =
    let before = saved_before set o sound is in
    (_, record { saved = before.0; is_saved = before.1; is = refl })

-- ---- instants rise

-- two of one nominal second have one instant
pub tied_instants : (set : RuleSet) (offset : ℤ) (p q : Occurrence) (u t : ℤ) → IsInOrder set offset → IsOccurrence set p → IsOccurrence set q → nominal p ≡ nominal q → IsInstant set offset p u → IsInstant set offset q t → u ≡ t
tied_instants set offset p q u t order is_p is_q tied at_p at_q =
    one_instant set offset q u t order.differ (subst (λ (z : Occurrence). IsInstant set offset z u) (same_occurrence set p q is_p is_q (order.differ p q is_p is_q tied)) at_p) at_q

-- by the occurrences between the two, at most n
rise_within : (set : RuleSet) (offset : ℤ) → All IsSoundRule set.rules → IsInOrder set offset → (n : ℕ) (p q : Occurrence) (u t : ℤ) → IsOccurrence set p → IsOccurrence set q → IsInstant set offset p u → IsInstant set offset q t → nominal p <ℤ nominal q → nominal q ≤ℤ (nominal p +ℤ pos n) → u <ℤ t
rise_within set offset sound order zero p q u t is_p is_q at_p at_q less near = absurd (omega (arith, ints))
rise_within set offset sound order (suc n) p q u t is_p is_q at_p at_q less near =
    elim at_q.is_saved [
      | inl first ↦ absurd (omega (arith, ints, first.0 p is_p))
      | inr (r, pred, e) ↦
          let at = some_instant set offset r sound pred.is in
          let rises = order.rise q r t at.0 is_q pred at_q at.1 in
          by_lt_z (nominal p) (nominal r)
          (λ lt. omega (arith, ints, rise_within set offset sound order n p r u at.0 is_p pred.is at_p at.1 lt (omega (arith, ints, pred.earlier))))
          (λ ge. omega (arith, ints, tied_instants set offset p r u at.0 order is_p pred.is (omega (arith, ints, pred.greatest p is_p less)) at_p at.1))
    ]

pub instants_rise : (set : RuleSet) (offset : ℤ) (p q : Occurrence) (u t : ℤ) → All IsSoundRule set.rules → IsInOrder set offset → IsOccurrence set p → IsOccurrence set q → IsInstant set offset p u → IsInstant set offset q t → nominal p <ℤ nominal q → u <ℤ t
instants_rise set offset p q u t sound order is_p is_q at_p at_q less =
    rise_within set offset sound order (up (nominal q) + down (nominal p)) p q u t is_p is_q at_p at_q less (omega (arith, ints))

pub never_both : (set : RuleSet) (offset : ℤ) → IsInOrder set offset → IsOutOfOrder set offset → ⊥
never_both set offset order (o, p, inl tied) = tied.different (order.differ o p tied.one tied.other tied.tied)
never_both set offset order (o, p, inr falls) = omega (arith, ints, falls.not_after, order.rise o p falls.later falls.earlier falls.is falls.predecessor falls.at_later falls.at_earlier)

-- ---- the last occurrence not after an instant

-- some year begins after each second
year_reaches : (n : ℕ) → (year_second (pos 0) +ℤ pos n) ≤ℤ year_second (pos n)
year_reaches zero = omega (arith, ints)
year_reaches (suc n) = omega (arith, ints, year_reaches n, years_apart (pos n) (pos (suc n)) (omega (arith, ints)))

-- an occurrence of such a year or a later one comes after the instant
comes_after : (set : RuleSet) (offset t : ℤ) (q : Occurrence) (v : ℤ) (end : ℕ) → All IsSoundRule set.rules → IsWithinDay offset → IsOccurrence set q → IsInstant set offset q v → (t +ℤ pos (21 * 86_400)) <ℤ year_second (pos end) → v ≤ℤ t → q.year <ℤ pos end
comes_after set offset t q v end sound within is at high le =
    by_lt_z q.year (pos end) (λ lt. lt)
    (λ ge. by_lt_z (pos end) q.year
    (λ lt. absurd (omega (arith, ints, instant_from set offset q v sound within is at, years_apart (pos end) q.year lt)))
    (λ le_year.
    let same : q.year ≡ pos end = omega (arith, ints) in
    absurd (omega (arith, ints, rw same at (instant_from set offset q v sound within is at)))))

pub last_not_after : (set : RuleSet) (offset t : ℤ) → All IsSoundRule set.rules → IsWithinDay offset → IsInOrder set offset → ((o : Occurrence) × (u : ℤ) × IsLastOccurrence set offset t o u) ⊎ ((q : Occurrence) (v : ℤ) → IsOccurrence set q → IsInstant set offset q v → t <ℤ v)
last_not_after set offset t sound within order =
    let end = up t + down (year_second (pos 0)) + 21 * 86_400 + 1 in
    let high : (t +ℤ pos (21 * 86_400)) <ℤ year_second (pos end) = omega (arith, ints, year_reaches end) in
    let search : IsSearchable set (λ q. IsOccurrence set q × (v : ℤ) × IsInstant set offset q v × (v ≤ℤ t)) end = record {
      decide = λ q is.
          let at = some_instant set offset q sound is in
          by_lt_z t at.0
          (λ lt. inr (λ h. absurd (omega (arith, ints, lt, h.3, one_instant set offset q at.0 h.1 order.differ at.1 h.2))))
          (λ ge. inl (is, at.0, at.1, ge));
      is = λ q h. h.0;
      ends = λ q h. comes_after set offset t q h.1 end sound within h.0 h.2 high h.3;
    } in
    elim (greatest_or_none set _ _ search) [
      | inl found ↦
          let h = found.1.holds in
          inl (
            found.0,
            h.1,
            record {
              is = h.0;
              instant = h.2;
              not_after = h.3;
              last = λ q v is at le. by_lt_z (nominal q) (nominal found.0)
                  (λ lt. omega (arith, ints, instants_rise set offset q found.0 v h.1 sound order is h.0 at h.2 lt))
                  (λ ge. omega (arith, ints, tied_instants set offset q found.0 v h.1 order is h.0 (omega (arith, ints, found.1.bound q (is, v, at, le))) at h.2));
            },
          )
      | inr none ↦ inr (λ q v is at. by_lt_z t v (λ lt. lt) (λ ge. absurd (none q (is, v, at, ge))))
    ]
