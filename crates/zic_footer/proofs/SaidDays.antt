-- How a string says the day of a rule: in just one way, which is the code's.
use Rattle.std.proofs.Common.{◌≡◌, ◌≢◌, ℕ, ◌+◌, ◌-◌, ◌*◌, ◌≤◌, ◌<◌, ◌⊎◌, inl, inr, true, false, refl, sym, ap, subst, ◌∙◌, arith, ℤ, pos, ◌+ℤ◌, ◌-ℤ◌, ◌≤ℤ◌}
use Rattle.std.specs.Prelude.{◌==◌, ◌&&◌, not, if◌then◌else◌}
use Rattle.std.proofs.lemmas.Bool.{cases_lt}
use Rattle.std.proofs.lemmas.Bool.Decides.{nat_tests}
use Rattle.std.proofs.lemmas.Int.{ints, clamps}
use Rattle.zic_calendar.specs.declared.day_form.On.{On}
use Rattle.zic_calendar.specs.declared.day_form.On.TheVariants.{Day, Last, After, Before}
use Rattle.zic_calendar.specs.Calendar.{month_length, is_leap_year, days_in_month, days_of_months, day_number, year_start}
use Rattle.zic_calendar.specs.DayForm.{FormFits, IsDayOf, last_meant, week_of, days_into_week, weekday_before}
use Rattle.zic_calendar.proofs.FormLemmas.{form_is, month_length_bounds}
use Rattle.zic_posix.specs.declared.footer.DayRule.{DayRule}
use Rattle.zic_posix.specs.declared.footer.DayRule.TheVariants.{J, M}
use Rattle.zic_posix.specs.Meaning.{day_in}
use Rattle.zic_footer.specs.Making.{Seeks, SeeksLast, IsPlainDay, IsInLastWeek, IsInWeek, SaysDay}
use Rattle.zic_footer.specs.code.Edges.{ShiftedDay, by_week, day_of_form}
use Rattle.zic_footer.proofs.DayForms.{same_length, common_two, before_march, from_march, week_of-range, meant_last, meant_itself, floor, day_of_form-right}

-- one of the ways to say a day
abbrev IsSaid : ℕ → On → DayRule → ℤ → Type 0
IsSaid month on day shift = IsPlainDay on day shift ⊎ IsInLastWeek month on day shift ⊎ IsInWeek month on day shift

abbrev IsSaidAt : ℕ → On → ShiftedDay → Type 0
IsSaidAt month on at = IsSaid month on at.day at.shift

-- ---- the last week

after_is_last : (m w d : ℕ) → ((d == month_length true m - 6) && not (m == 2)) ≡ true → SeeksLast m (After w d) w
after_is_last m w d e = λ year.
    let same : d ≡ month_length true m - 6 = grind (arith, nat_tests) in
    let other : m ≢ 2 = grind (arith, nat_tests) in
    let long : days_in_month year m ≡ month_length true m = same_length (is_leap_year year) true m other in
    (refl, omega (arith, same, long, month_length_bounds true m))

after_is_not : (m w d x : ℕ) → ((d == month_length true m - 6) && not (m == 2)) ≡ false → SeeksLast m (After w d) x → ⊥
after_is_not m w d x e seeks =
    let leap : month_length true m ≡ d + 6 = (seeks (pos 4)).1 in
    let common : month_length false m ≡ d + 6 = (seeks (pos 1)).1 in
    grind (arith, nat_tests)

before_is_last : (m w d : ℕ) → (d == month_length true m) ≡ true → SeeksLast m (Before w d) w
before_is_last m w d e = λ year.
    let same : d ≡ month_length true m = grind (arith, nat_tests) in
    (refl, sym (meant_last year m d same))

before_is_not : (m w d x : ℕ) → (d == month_length true m) ≡ false → SeeksLast m (Before w d) x → ⊥
before_is_not m w d x e seeks =
    let leap : month_length true m ≡ last_meant (pos 4) m d = (seeks (pos 4)).1 in
    let itself = meant_itself (pos 4) m d e in
    let same : month_length true m ≡ d = leap ∙ itself in
    grind (arith, nat_tests)

-- ---- the first four weeks

-- the week of a day is the last that doesn't begin after it, and week 1 where each does
not_after : (q : ℤ) → (week_of q ≡ 1) ⊎ (pos 0 ≤ℤ days_into_week q)
not_after q = elim (cases_lt 1 (week_of q)) [
  | inl later ↦ inr (let whole = floor (q -ℤ pos 1) in grind (arith, ints, clamps))
  | inr first ↦ inl (omega (arith, first, (week_of-range q).0))
]

is_last : (q : ℤ) → (week_of q ≡ 4) ⊎ (days_into_week q ≤ℤ pos 6)
is_last q = elim (cases_lt (week_of q) 4) [
  | inl earlier ↦ inr (let whole = floor (q -ℤ pos 1) in grind (arith, ints, clamps))
  | inr fourth ↦ inl (omega (arith, fourth, (week_of-range q).1))
]

moved : (last : ℕ) (q : ℤ) → q ≡ pos last -ℤ pos 6 → pos last ≡ pos (7 * week_of q) +ℤ days_into_week q
moved last q is = let range = week_of-range q in omega (arith, ints, is, range)

-- no other week is
no_earlier : (last v w : ℕ) (s t : ℤ) → 1 ≤ v → w ≤ 4 → pos last ≡ pos (7 * v) +ℤ s → pos last ≡ pos (7 * w) +ℤ t
    → (v ≡ 4) ⊎ (s ≤ℤ pos 6) → (w ≡ 1) ⊎ (pos 0 ≤ℤ t) → v < w → ⊥
no_earlier last v w s t low high is_v is_w (inl four) not_later lt = omega (arith, four, high, lt)
no_earlier last v w s t low high is_v is_w (inr few) (inl one) lt = omega (arith, one, low, lt)
no_earlier last v w s t low high is_v is_w (inr few) (inr from) lt = omega (arith, ints, is_v, is_w, few, from, lt)

same_shift : (last v w : ℕ) (s t : ℤ) → v ≡ w → pos last ≡ pos (7 * v) +ℤ s → pos last ≡ pos (7 * w) +ℤ t → s ≡ t
same_shift last v w s t e is_v is_w = omega (arith, ints, e, is_v, is_w)

-- ---- the way of the code

module _ (m w last : ℕ) (on : On) (q : ℤ) (is_q : q ≡ pos last -ℤ pos 6) (no_day : (d : ℕ) → on ≡ Day d → ⊥)
    (seeks : (year : ℤ) → (x l : ℕ) → Seeks on year m x l → x ≡ w) where
  say_last : SeeksLast m on w → IsSaid m on (M m 5 w) (pos 0)
  say_last always = inr (inl (w, always, refl, refl))

  say_week : ((year : ℤ) → Seeks on year m w last) → (SeeksLast m on w → ⊥) → IsSaid m on (by_week m w q).day (by_week m w q).shift
  say_week to never = inr (inr (record {
    weekday = w;
    last = last;
    seeks = to;
    not_last_week = never;
    week = week_of q;
    is_week = week_of-range q;
    moved = moved last q is_q;
    not_after = not_after q;
    is_last = is_last q;
    says = refl;
  }))

  one_last : SeeksLast m on w → (day : DayRule) (shift : ℤ) → IsSaid m on day shift → (day ≡ M m 5 w) × (shift ≡ pos 0)
  one_last always day shift (inl (d, n, is, says, none)) = absurd (no_day d is)
  one_last always day shift (inr (inl (x, its, says, none))) = (says ∙ ap (λ (y : ℕ). M m 5 y) (seeks (pos 1) x (days_in_month (pos 1) m) (its (pos 1))), none)
  one_last always day shift (inr (inr way)) =
      absurd (way.not_last_week (subst (λ (x : ℕ). SeeksLast m on x) (sym (seeks (pos 1) way.weekday way.last (way.seeks (pos 1)))) always))

  one_week : ((x : ℕ) → SeeksLast m on x → ⊥) → ((x l : ℕ) → Seeks on (pos 1) m x l → l ≡ last) → (day : DayRule) (shift : ℤ) → IsSaid m on day shift
      → (day ≡ (by_week m w q).day) × (shift ≡ (by_week m w q).shift)
  one_week never to day shift (inl (d, n, is, says, none)) = absurd (no_day d is)
  one_week never to day shift (inr (inl (x, always, says, none))) = absurd (never x always)
  one_week never to day shift (inr (inr way)) =
      let range = week_of-range q in
      let weekday = seeks (pos 1) way.weekday way.last (way.seeks (pos 1)) in
      let same_last = to way.weekday way.last (way.seeks (pos 1)) in
      let mine : pos last ≡ pos (7 * way.week) +ℤ shift = ap pos (sym same_last) ∙ way.moved in
      let week : way.week ≡ week_of q = elim (cases_lt way.week (week_of q)) [
        | inl lt ↦ absurd (no_earlier last way.week (week_of q) shift (days_into_week q) way.is_week.0 range.1 mine (moved last q is_q) way.is_last (not_after q) lt)
        | inr ge ↦ elim (cases_lt (week_of q) way.week) [
          | inl gt ↦ absurd (no_earlier last (week_of q) way.week (days_into_week q) shift range.0 way.is_week.1 (moved last q is_q) mine (is_last q) way.not_after gt)
          | inr le ↦ omega (arith, ge, le)
        ]
      ] in
      let days = same_shift last way.week (week_of q) shift (days_into_week q) week mine (moved last q is_q) in
      (way.says ∙ (λ k. M m (week k) (weekday_before (weekday k) (days k))), days)

-- ---- plain days

-- in a common year the days are counted from 1
counted_in_common : (n : ℕ) → day_in (pos 1) (J n) ≡ year_start (pos 1) +ℤ pos n -ℤ pos 1
counted_in_common n = elim (cases_lt 59 n) [
  | inl many ↦ let from = from_march (pos 1) n many in omega (arith, ints, from, common_two)
  | inr few ↦ before_march (pos 1) n few
]

one_number : (m d n : ℕ) → day_in (pos 1) (J n) +ℤ pos 0 ≡ day_number (pos 1) m d → n ≡ days_of_months (pos 1) (m - 1) + d
one_number m d n e = let counted = counted_in_common n in omega (arith, ints, e, counted)

one_plain : (m d : ℕ) (day : DayRule) (shift : ℤ) → IsDayOf (pos 1) m (Day d) (day_in (pos 1) day +ℤ shift) → IsSaid m (Day d) day shift
    → (day ≡ (day_of_form m (Day d)).day) × (shift ≡ pos 0)
one_plain m d day shift means (inl (e, n, is, says, none)) =
    let meant : day_in (pos 1) (J n) +ℤ pos 0 ≡ day_number (pos 1) m d = (λ k. day_in (pos 1) (sym says k) +ℤ sym none k) ∙ means in
    (says ∙ ap (λ (x : ℕ). J x) (one_number m d n meant), none)
one_plain m d day shift means (inr (inl (x, always, says, none))) = absurd (always (pos 1))
one_plain m d day shift means (inr (inr way)) = absurd (way.seeks (pos 1))

-- ---- each form

abbrev IsOne : ℕ → On → DayRule → ℤ → ShiftedDay → Type 0
IsOne m on day shift at = (day ≡ at.day) × (shift ≡ at.shift)

no_last_day : (w d : ℕ) → Last w ≡ Day d → ⊥
no_last_day w d e = cc

no_after_day : (w q d : ℕ) → After w q ≡ Day d → ⊥
no_after_day w q d e = cc

no_before_day : (w q d : ℕ) → Before w q ≡ Day d → ⊥
no_before_day w q d e = cc

after_said : (m w d : ℕ) → IsSaidAt m (After w d) (day_of_form m (After w d))
after_said m w d =
    let is_q : pos d ≡ pos (d + 6) -ℤ pos 6 = omega (arith, ints) in
    elim ((d == month_length true m - 6) && not (m == 2)) as (λ b. ((d == month_length true m - 6) && not (m == 2)) ≡ b
    → IsSaidAt m (After w d) (if b then record { day = M m 5 w; shift = pos 0 } else by_week m w (pos d))) [
      | true ↦ λ e. say_last m w (d + 6) (After w d) (pos d) is_q (no_after_day w d) (λ year x l h. h.0) (after_is_last m w d e)
      | false ↦ λ e. say_week m w (d + 6) (After w d) (pos d) is_q (no_after_day w d) (λ year x l h. h.0) (λ year. (refl, refl)) (after_is_not m w d w e)
    ] refl

after_one : (m w d : ℕ) (day : DayRule) (shift : ℤ) → IsSaid m (After w d) day shift → IsOne m (After w d) day shift (day_of_form m (After w d))
after_one m w d day shift said =
    let is_q : pos d ≡ pos (d + 6) -ℤ pos 6 = omega (arith, ints) in
    elim ((d == month_length true m - 6) && not (m == 2)) as (λ b. ((d == month_length true m - 6) && not (m == 2)) ≡ b
    → IsOne m (After w d) day shift (if b then record { day = M m 5 w; shift = pos 0 } else by_week m w (pos d))) [
      | true ↦ λ e. one_last m w (d + 6) (After w d) (pos d) is_q (no_after_day w d) (λ year x l h. h.0) (after_is_last m w d e) day shift said
      | false ↦ λ e. one_week m w (d + 6) (After w d) (pos d) is_q (no_after_day w d) (λ year x l h. h.0) (λ x. after_is_not m w d x e) (λ x l h. h.1) day shift said
    ] refl

before_said : (m w d : ℕ) → IsSaidAt m (Before w d) (day_of_form m (Before w d))
before_said m w d =
    elim (d == month_length true m) as (λ b. (d == month_length true m) ≡ b
    → IsSaidAt m (Before w d) (if b then record { day = M m 5 w; shift = pos 0 } else by_week m w (pos d -ℤ pos 6))) [
      | true ↦ λ e. say_last m w d (Before w d) (pos d -ℤ pos 6) refl (no_before_day w d) (λ year x l h. h.0) (before_is_last m w d e)
      | false ↦ λ e.
          say_week m w d (Before w d) (pos d -ℤ pos 6) refl (no_before_day w d) (λ year x l h. h.0) (λ year. (refl, sym (meant_itself year m d e)))
          (before_is_not m w d w e)
    ] refl

before_one : (m w d : ℕ) (day : DayRule) (shift : ℤ) → IsSaid m (Before w d) day shift → IsOne m (Before w d) day shift (day_of_form m (Before w d))
before_one m w d day shift said =
    elim (d == month_length true m) as (λ b. (d == month_length true m) ≡ b
    → IsOne m (Before w d) day shift (if b then record { day = M m 5 w; shift = pos 0 } else by_week m w (pos d -ℤ pos 6))) [
      | true ↦ λ e. one_last m w d (Before w d) (pos d -ℤ pos 6) refl (no_before_day w d) (λ year x l h. h.0) (before_is_last m w d e) day shift said
      | false ↦ λ e.
          one_week m w d (Before w d) (pos d -ℤ pos 6) refl (no_before_day w d) (λ year x l h. h.0) (λ x. before_is_not m w d x e)
          (λ x l h. h.1 ∙ meant_itself (pos 1) m d e) day shift said
    ] refl

last_seeks : (m w : ℕ) → SeeksLast m (Last w) w
last_seeks m w = λ year. (refl, refl)

said : (m : ℕ) (on : On) → IsSaidAt m on (day_of_form m on)
said m (Day d) = inl (d, days_of_months (pos 1) (m - 1) + d, refl, refl, refl)
said m (Last w) = inr (inl (w, last_seeks m w, refl, refl))
said m (After w d) = after_said m w d
said m (Before w d) = before_said m w d

-- so a string says the day of a rule as the code does
pub says_day : (m : ℕ) (on : On) → ((year : ℤ) → FormFits year m on) → SaysDay m on (day_of_form m on).day (day_of_form m on).shift
says_day m on fits = record {
  means = λ year. subst (λ (x : ℤ). IsDayOf year m on x) (sym (day_of_form-right m on fits year)) (form_is year m on (fits year));
  way = said m on;
}

one_way : (m : ℕ) (on : On) (day : DayRule) (shift : ℤ) → IsDayOf (pos 1) m on (day_in (pos 1) day +ℤ shift) → IsSaid m on day shift
    → IsOne m on day shift (day_of_form m on)
one_way m (Day d) day shift means way = one_plain m d day shift means way
one_way m (Last w) day shift means way =
    one_last m w 6 (Last w) (pos 0) (omega (arith, ints)) (no_last_day w) (λ year x l h. h.0) (last_seeks m w) day shift way
one_way m (After w d) day shift means way = after_one m w d day shift way
one_way m (Before w d) day shift means way = before_one m w d day shift way

-- and in no other way
pub says_one_day : (m : ℕ) (on : On) (day : DayRule) (shift : ℤ) → SaysDay m on day shift
    → (day ≡ (day_of_form m on).day) × (shift ≡ (day_of_form m on).shift)
says_one_day m on day shift says = one_way m on day shift (says.means (pos 1)) says.way
