-- The stages of a set in order, one after another, and the first of them after which the reading of an UNTIL stops.
use Rattle.std.proofs.Common.{◌≡◌, ℕ, zero, suc, ◌+◌, All, ◌⊎◌, inl, inr, Option, Some, None, refl, ap, subst, arith, ℤ, pos, ◌+ℤ◌, ◌≤ℤ◌}
use Rattle.std.proofs.lemmas.Int.{ints, by_lt_z}
use borrow.Author.Differences.{up, down}
use Rattle.zic_lines.specs.declared.until.Until.{Until}
use Rattle.zic_source.specs.Sound.{IsSoundRule}
use Rattle.zic_states.specs.Occurrence.{RuleSet, Occurrence, IsOccurrence, nominal, nominal_second, year_second}
use Rattle.zic_states.specs.Order.{IsFirst, IsPredecessor, IsInstant}
use Rattle.zic_states.proofs.Bounds.{nominal_from, years_apart}
use Rattle.zic_states.proofs.Instants.{some_instant, saved_before, last_not_after}
use Rattle.zic_states.specs.Until.{IsNext, IsStage, ComesBefore, Stops, IsReadAfter, saved_after, until_by}
use Rattle.zic_states.proofs.Given.{one_instant, instants_rise}
use Rattle.zic_states.proofs.Ordered.{IsOrdered, compare_occurrences, next_is, one_next}
use Rattle.zic_states.proofs.Walked.{instant_not_after, saved_within}

-- no occurrence comes 19 days before the year 0
not_before_year_0 : (set : RuleSet) (o : Occurrence) → All IsSoundRule set.rules → IsOccurrence set o
    → year_second (pos 0) ≤ℤ (nominal o +ℤ pos 1_641_600)
not_before_year_0 set o sound is =
    let from = nominal_from set o sound is in
    let begun = is.holds.begun in
    by_lt_z (pos 0) o.year
    (λ later. let apart = years_apart (pos 0) o.year later in omega (arith, ints))
    (λ first.
    let same : o.year ≡ pos 0 = omega (arith, ints) in
    let here : year_second o.year ≡ year_second (pos 0) = ap year_second same in
    omega (arith, ints))

module _ (set : RuleSet) (offset : ℤ) (given : IsOrdered set offset) (until : Until) where
  -- no stage before c stops the reading
  abbrev NoneStopsBefore : Option Occurrence → Type 0
  NoneStopsBefore c = (d : Option Occurrence) → IsStage set d → ComesBefore d c → Stops set offset until d → ⊥

  -- the stages before q are c and those before it
  abbrev AreUpTo : Option Occurrence → Occurrence → Type 0
  AreUpTo c q = (d : Option Occurrence) → IsStage set d → ComesBefore d (Some q) → ComesBefore d c ⊎ (d ≡ c)

  -- an UNTIL is read after some stage, or none before q stops the reading
  abbrev IsReadOrLater : Occurrence → Type 0
  IsReadOrLater q = ((b : Option Occurrence) × IsReadAfter set offset until b) ⊎ NoneStopsBefore (Some q)

  -- ---- one stage

  -- whether the reading stops after c, where q is the next
  stops_or_not : (c : Option Occurrence) (q : Occurrence) → IsNext set c q → Stops set offset until c ⊎ (Stops set offset until c → ⊥)
  stops_or_not c q next =
      let is_q = next_is set c q next in
      let (u, at) = some_instant set offset q given.sound is_q in
      by_lt_z u (until_by offset until (saved_after c))
      (λ lt. inr (λ stops. let le = stops q u next at in absurd (omega (arith, ints))))
      (λ ge. inl (λ p v is_next at_v.
      let same = one_next set offset given.order c p q is_next next in
      let at_q = subst (λ (o : Occurrence). IsInstant set offset o v) same at_v in
      let time = one_instant set offset given.sound given.within given.order q v u is_q at_q at in
      omega (arith, ints)))

  one_stage_more : (c : Option Occurrence) (q : Occurrence) → IsStage set c → IsNext set c q → AreUpTo c q → NoneStopsBefore c → IsReadOrLater q
  one_stage_more c q is next up_to none =
      elim (stops_or_not c q next) [
        | inl stops ↦ inl (c, record { is = is; stops = stops; first = none })
        | inr goes_on ↦ inr (λ d is_d before stops. elim (up_to d is_d before) [
          | inl earlier ↦ none d is_d earlier stops
          | inr same ↦ goes_on (subst (Stops set offset until) same stops)
        ])
      ]

  up_to_none : (q : Occurrence) → IsFirst set q → AreUpTo None q
  up_to_none q first None is before = inr refl
  up_to_none q first (Some o) is before = absurd (omega (arith, ints, first o is))

  up_to_predecessor : (p q : Occurrence) → IsPredecessor set q p → AreUpTo (Some p) q
  up_to_predecessor p q pred None is before = inl tt
  up_to_predecessor p q pred (Some o) is before =
      elim (compare_occurrences set offset given.order o p is pred.is) [
        | inl lt ↦ inl lt
        | inr (inl same) ↦ inr (ap Some same)
        | inr (inr gt) ↦ let le = pred.greatest o is before in absurd (omega (arith, ints))
      ]

  -- ---- all stages

  -- by the stages before q, of which there are at most n
  read_within : (n : ℕ) (q : Occurrence) → IsOccurrence set q
      → (nominal q +ℤ pos 1_728_000) ≤ℤ (year_second (pos 0) +ℤ pos n) → IsReadOrLater q
  read_within zero q is near = absurd (omega (arith, ints, not_before_year_0 set q given.sound is))
  read_within (suc n) q is near =
      elim (saved_before set q given.sound is).1 [
        | inl (first, e) ↦ one_stage_more None q tt (is, first) (up_to_none q first) (λ d is_d never stops. never)
        | inr (p, pred, e) ↦ elim (read_within n p pred.is (omega (arith, ints, pred.earlier))) [
          | inl found ↦ inl found
          | inr none ↦ one_stage_more (Some p) q pred.is (is, pred) (up_to_predecessor p q pred) none
        ]
      ]

  read_or_later : (q : Occurrence) → IsOccurrence set q → IsReadOrLater q
  read_or_later q is = read_within (up (nominal q) + down (year_second (pos 0)) + 1_728_000) q is (omega (arith, ints))

  -- 48 hours after the second that the UNTIL names: it is read there or before
  abbrev latest : ℤ
  latest = nominal_second (pos until.year) until.moment +ℤ pos 172_800

  read_by_latest : (b : Option Occurrence) → IsStage set b → until_by offset until (saved_after b) ≤ℤ latest
  read_by_latest b is =
      instant_not_after until.moment.at.form offset (saved_after b) (nominal_second (pos until.year) until.moment) given.within (saved_within set given.sound b is)

  -- An UNTIL is read after some occurrence, or before all.
  pub some_stage : (b : Option Occurrence) × IsReadAfter set offset until b
  some_stage =
      elim (last_not_after set offset latest given.sound given.within given.order) [
        | inl (o, u, last) ↦ elim (read_or_later o last.is) [
          | inl found ↦ found
          | inr none ↦ (
            Some o,
            record {
              is = last.is;
              stops = λ next v is_next at.
                  let read = read_by_latest (Some o) last.is in
                  let rise = instants_rise set offset given.sound given.within given.order next o v u is_next.0 last.is is_next.1.earlier at last.instant in
                  by_lt_z latest v
                  (λ lt. omega (arith, ints))
                  (λ ge. let le = last.last next v is_next.0 at ge in absurd (omega (arith, ints)));
              first = none;
            },
          )
        ]
        | inr after ↦ (
          None,
          record {
            is = tt;
            stops = λ next v is_next at.
                let read = read_by_latest None tt in
                let late = after next v is_next.0 at in
                omega (arith, ints);
            first = λ c is_c before stops. before;
          },
        )
      ]
