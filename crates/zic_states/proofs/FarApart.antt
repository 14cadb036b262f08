-- Where the rules that go on for ever lie three months apart or more, occurrences of years after the last that the set names lie
-- more than four days apart: so a set that is in order before the third year after it is in order for ever.
use Rattle.std.proofs.Common.{◌≡◌, ℕ, zero, suc, ◌+◌, ◌-◌, ◌*◌, ◌≤◌, ◌⊎◌, All, inl, inr, refl, sym, ap, subst, arith, ℤ, pos, ◌+ℤ◌, ◌*ℤ◌, ◌<ℤ◌, ◌≤ℤ◌, List, Option, Some, None, unwrap_or, IfSome, unsigned_abs}
use Rattle.std.proofs.lemmas.Bool.{cases_lt}
use Rattle.std.proofs.lemmas.Int.{ints, by_lt_z}
use Rattle.zic_calendar.specs.Calendar.{day_number, days_in_month, days_of_months, is_leap_year}
use Rattle.zic_calendar.specs.DayForm.{form_day}
use Rattle.zic_calendar.proofs.DateLemmas.{day_number-next_year, days_of_months-zero}
use Rattle.zic_calendar.proofs.FormLemmas.{form_bounds, month_length_bounds}
use Rattle.zic_lines.specs.Month.{IsMonth}
use Rattle.zic_lines.specs.declared.rule_line.Rule.{Rule}
use Rattle.zic_source.specs.Sound.{IsSoundRule, IsWithinDay}
use Rattle.zic_states.specs.declared.occurrence.TimedOccurrence.{TimedOccurrence}
use Rattle.zic_states.specs.Occurrence.{RuleSet, Occurrence, IsOccurrence, AreSame, nominal, year_second}
use Rattle.zic_states.specs.Order.{IsInstant, IsInOrder}
use Rattle.zic_states.specs.Listing.{IsLastNamed}
use Rattle.zic_states.specs.code.Apart.{AreMonthsApart, LieFarApart}
use Rattle.zic_states.specs.code.OccurrenceWalk.{AreWalked}
use Rattle.zic_states.proofs.Bounds.{near_month, nominal_second-is, sound_rule, nominal_from, nominal_to, years_apart, instant_near_nominal}
use Rattle.zic_states.proofs.Same.{Differ, one_place, same_occurrence}
use Rattle.zic_states.proofs.ForEver.{differ_listed, rise_listed, rise_apart}

-- ---- months

-- a month has at least 28 days
months_later : (y : ℤ) (m n : ℕ) → m ≤ n → days_of_months y m + 28 * n ≤ days_of_months y n + 28 * m
unfolding days_of_months
months_later y m zero h = let none : m ≡ 0 = omega arith in rw none (omega arith)
months_later y m (suc n) h = elim (cases_lt m (suc n)) [
  | inl lt ↦
      let before = months_later y m n (omega arith) in
      let length = month_length_bounds (is_leap_year y) (suc n) in
      omega arith
  | inr ge ↦ let same : m ≡ suc n = omega arith in rw same (omega arith)
]

-- three months have at least 84, also over the turn of a year
in_year : (y : ℤ) (m n : ℕ) → IsMonth m → m + 3 ≤ n → (day_number y m 1 +ℤ pos 84) ≤ℤ day_number y n 1
in_year y m n month apart = let later = months_later y (m - 1) (n - 1) (omega arith) in omega (arith, ints, month.0)

to_next : (y next : ℤ) (m n : ℕ) → next ≡ y +ℤ pos 1 → IsMonth m → IsMonth n → n ≤ m + 9 → (day_number y n 1 +ℤ pos 84) ≤ℤ day_number next m 1
to_next y next m n e month other apart =
    let year = day_number-next_year y next e in
    let rest = months_later y (n - 1) 11 (omega (arith, other)) in
    let begun = months_later next 0 (m - 1) (omega arith) in
    omega (arith, ints, month, other, days_of_months-zero next)

-- ---- nominal seconds

second_near : (first end day at : ℤ) → end ≤ℤ (first +ℤ pos 30) → first ≤ℤ (day +ℤ pos 6) → day ≤ℤ (end +ℤ pos 6) → unsigned_abs at ≤ 1_080_000
    → ((pos 86_400 *ℤ first) ≤ℤ (((pos 86_400 *ℤ day) +ℤ at) +ℤ pos (19 * 86_400))) × (((pos 86_400 *ℤ day) +ℤ at) ≤ℤ ((pos 86_400 *ℤ first) +ℤ pos (49 * 86_400)))
second_near first end day at month low high time = (omega (arith, ints), omega (arith, ints))

month_end : (y : ℤ) (m : ℕ) → day_number y m (days_in_month y m) ≤ℤ (day_number y m 1 +ℤ pos 30)
month_end y m = let length = month_length_bounds (is_leap_year y) m in omega (arith, ints)

-- an occurrence comes from 19 days before the first day of its month to 49 days after it
near_first : (set : RuleSet) (o : Occurrence) → All IsSoundRule set.rules → IsOccurrence set o
    → ((pos 86_400 *ℤ day_number o.year o.rule.moment.month 1) ≤ℤ (nominal o +ℤ pos (19 * 86_400)))
    × (nominal o ≤ℤ ((pos 86_400 *ℤ day_number o.year o.rule.moment.month 1) +ℤ pos (49 * 86_400)))
near_first set o sound is =
    let rule = sound_rule set o sound is in
    let m = o.rule.moment.month in
    let day = form_day o.year m o.rule.moment.on in
    let near = near_month o.year m o.rule.moment.on day (form_bounds o.year m o.rule.moment.on (rule.fits o.year is.holds)) in
    rw (nominal_second-is o.year o.rule.moment) (second_near (day_number o.year m 1) (day_number o.year m (days_in_month o.year m)) day o.rule.moment.at.seconds (month_end o.year m) near.0 near.1 rule.moment.at)

-- 84 days are more than these and four
long_before : (first next : ℤ) (x z : ℤ) → (first +ℤ pos 84) ≤ℤ next → x ≤ℤ ((pos 86_400 *ℤ first) +ℤ pos (49 * 86_400))
    → (pos 86_400 *ℤ next) ≤ℤ (z +ℤ pos (19 * 86_400)) → (x +ℤ pos (4 * 86_400)) <ℤ z
long_before first next x z apart to from = omega (arith, ints)

-- p comes more than four days after o
abbrev ComesLongAfter : Occurrence → Occurrence → Type 0
ComesLongAfter o p = (nominal o +ℤ pos (4 * 86_400)) <ℤ nominal p

in_one_year : (set : RuleSet) (o p : Occurrence) → All IsSoundRule set.rules → IsOccurrence set o → IsOccurrence set p → o.year ≡ p.year → o.rule.moment.month + 3 ≤ p.rule.moment.month → ComesLongAfter o p
in_one_year set o p sound is_o is_p e apart =
    let month = (sound_rule set o sound is_o).moment.month in
    long_before (day_number o.year o.rule.moment.month 1) (day_number p.year p.rule.moment.month 1) (nominal o) (nominal p)
    (subst (λ (y : ℤ). (day_number o.year o.rule.moment.month 1 +ℤ pos 84) ≤ℤ day_number y p.rule.moment.month 1) e (in_year o.year o.rule.moment.month p.rule.moment.month month apart))
    (near_first set o sound is_o).1 (near_first set p sound is_p).0

in_later_year : (set : RuleSet) (o p : Occurrence) → All IsSoundRule set.rules → IsOccurrence set o → IsOccurrence set p → o.year <ℤ p.year → o.rule.moment.month ≤ p.rule.moment.month + 9 → ComesLongAfter o p
in_later_year set o p sound is_o is_p lt apart =
    by_lt_z p.year (o.year +ℤ pos 2)
    (λ near.
    long_before (day_number o.year o.rule.moment.month 1) (day_number p.year p.rule.moment.month 1) (nominal o) (nominal p)
    (to_next o.year p.year p.rule.moment.month o.rule.moment.month (omega (arith, ints)) (sound_rule set p sound is_p).moment.month (sound_rule set o sound is_o).moment.month apart)
    (near_first set o sound is_o).1 (near_first set p sound is_p).0)
    (λ far.
    omega (arith, ints, nominal_to set o (o.year +ℤ pos 1) refl sound is_o, nominal_from set p sound is_p, years_apart (o.year +ℤ pos 1) p.year (omega (arith, ints))))

-- so the later of two comes long after the other, where neither's month is more than nine after the other's
by_years : (set : RuleSet) (o p : Occurrence) → All IsSoundRule set.rules → IsOccurrence set o → IsOccurrence set p → nominal o ≤ℤ nominal p
    → o.rule.moment.month ≤ p.rule.moment.month + 9 → p.rule.moment.month ≤ o.rule.moment.month + 9 → (o.year ≡ p.year) ⊎ ComesLongAfter o p
by_years set o p sound is_o is_p le to from =
    by_lt_z o.year p.year
    (λ lt. inr (in_later_year set o p sound is_o is_p lt to))
    (λ ge. by_lt_z p.year o.year
    (λ gt. let before = in_later_year set p o sound is_p is_o gt from in absurd (omega (arith, ints)))
    (λ le. inl (omega (arith, ints))))

goes_on : (last : Option ℕ) (first L : ℕ) (y : ℤ) → unwrap_or last first ≤ L → IfSome last (λ n. y ≤ℤ pos n) → pos L <ℤ y → last ≡ None
goes_on (Some n) first L y named holds after = absurd (omega (arith, ints, holds))
goes_on None first L y named holds after = refl

-- what occurs after the last year that the set names goes on for ever
after_last : (set : RuleSet) (L : ℕ) (o : Occurrence) → IsLastNamed set L → IsOccurrence set o → pos L <ℤ o.year → o.rule.last ≡ None
after_last set L o last is after = goes_on o.rule.last o.rule.first L o.year (last.greatest o.number o.rule is.member) is.holds.not_over after

-- two of different rules
of_different : (set : RuleSet) (o p : Occurrence) → All IsSoundRule set.rules → IsOccurrence set o → IsOccurrence set p → nominal o ≤ℤ nominal p
    → AreMonthsApart o.rule.moment.month p.rule.moment.month → ComesLongAfter o p
of_different set o p sound is_o is_p le apart =
    let to : o.rule.moment.month ≤ p.rule.moment.month + 9 = omega (arith, apart) in
    let from : p.rule.moment.month ≤ o.rule.moment.month + 9 = omega (arith, apart) in
    elim (by_years set o p sound is_o is_p le to from) [
      | inl e ↦ elim (cases_lt o.rule.moment.month p.rule.moment.month) [
        | inl lt ↦ in_one_year set o p sound is_o is_p e (omega (arith, apart))
        | inr ge ↦ let before = in_one_year set p o sound is_p is_o (sym e) (omega (arith, apart)) in absurd (omega (arith, ints))
      ]
      | inr long ↦ long
    ]

-- two of one rule
of_one : (set : RuleSet) (o p : Occurrence) → All IsSoundRule set.rules → IsOccurrence set o → IsOccurrence set p → nominal o ≤ℤ nominal p
    → o.number ≡ p.number → AreSame o p ⊎ ComesLongAfter o p
of_one set o p sound is_o is_p le e =
    let month = ap (λ (r : Rule). r.moment.month) (one_place set.rules o.number p.number o.rule p.rule e is_o.member.numbered is_p.member.numbered) in
    elim (by_years set o p sound is_o is_p le (omega arith) (omega arith)) [
      | inl year ↦ inl (record { number = e; year = year })
      | inr long ↦ inr long
    ]

-- two after the last year that the set names
apart_after : (set : RuleSet) (L : ℕ) (o p : Occurrence) → All IsSoundRule set.rules → IsLastNamed set L → LieFarApart set → IsOccurrence set o → IsOccurrence set p
    → pos L <ℤ o.year → pos L <ℤ p.year → nominal o ≤ℤ nominal p → AreSame o p ⊎ ComesLongAfter o p
apart_after set L o p sound last apart is_o is_p after_o after_p le =
    elim (apart o.number p.number o.rule p.rule is_o.member is_p.member) [
      | inl e ↦ of_one set o p sound is_o is_p le e
      | inr lie ↦ inr (of_different set o p sound is_o is_p le (lie (after_last set L o last is_o after_o) (after_last set L p last is_p after_p)))
    ]

-- ---- order for ever

-- the occurrences of a set of rules far apart before a bound in the year 3 after its last, or later, with instants that rise
pub record IsShortWalk (set : RuleSet) (offset bound : ℤ) (L : ℕ) (os : List Occurrence) (xs : List TimedOccurrence) : Type 0 where
  pub sound : All IsSoundRule set.rules
  pub within : IsWithinDay offset
  pub last : IsLastNamed set L
  pub apart : LieFarApart set
  pub far : year_second (pos L +ℤ pos 3) ≤ℤ bound
  pub walked : AreWalked set offset bound os xs

module _ (set : RuleSet) (offset bound : ℤ) (L : ℕ) (os : List Occurrence) (xs : List TimedOccurrence) (walk : IsShortWalk set offset bound L os xs) where
  late : (o : Occurrence) → IsOccurrence set o → bound ≤ℤ nominal o → (pos L +ℤ pos 2) ≤ℤ o.year
  late o is h =
      by_lt_z o.year (pos L +ℤ pos 2)
      (λ lt. absurd (omega (arith, ints, walk.far, nominal_to set o (o.year +ℤ pos 1) refl walk.sound is, years_apart (o.year +ℤ pos 1) (pos L +ℤ pos 3) (omega (arith, ints)))))
      (λ ge. ge)

  differ : Differ set
  differ o p is_o is_p tied =
      by_lt_z (nominal o) bound
      (λ before. differ_listed set bound os o p walk.walked.in_order is_o is_p before tied)
      (λ after.
      let year_o = late o is_o after in
      let year_p = late p is_p (omega (arith, ints)) in
      elim (apart_after set L o p walk.sound walk.last walk.apart is_o is_p (omega (arith, ints)) (omega (arith, ints)) (omega (arith, ints))) [
        | inl same ↦ same
        | inr long ↦ absurd (omega (arith, ints))
      ])

  rise : (p q : Occurrence) (u t : ℤ) → IsOccurrence set p → IsOccurrence set q → nominal p <ℤ nominal q → IsInstant set offset p u → IsInstant set offset q t → u <ℤ t
  rise p q u t is_p is_q less at_p at_q =
      by_lt_z (nominal q) bound
      (λ before. rise_listed set offset bound os xs walk.walked differ p q u t is_p is_q less before at_p at_q)
      (λ after.
      let year_q = late q is_q after in
      by_lt_z q.year (p.year +ℤ pos 2)
      (λ near. elim (apart_after set L p q walk.sound walk.last walk.apart is_p is_q (omega (arith, ints)) (omega (arith, ints)) (omega (arith, ints))) [
        | inl same ↦ absurd (omega (arith, ints, ap (λ (z : Occurrence). nominal z) (same_occurrence set p q is_p is_q same)))
        | inr long ↦ omega (arith, ints, (instant_near_nominal set offset p u walk.sound walk.within at_p).1, (instant_near_nominal set offset q t walk.sound walk.within at_q).0)
      ])
      (λ apart. rise_apart set offset p q u t walk.sound walk.within is_p is_q apart at_p at_q))

  pub in_order_far_apart : IsInOrder set offset
  in_order_far_apart = record {
    differ = differ;
    rise = λ o p t u is pred at_o at_p. rise p o u t pred.is is pred.earlier at_p at_o;
  }
