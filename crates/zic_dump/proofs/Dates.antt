-- The calendar repeats, any number of times.
use Rattle.std.proofs.Common.{◌≡◌, ℕ, zero, suc, ◌*◌, ℤ, pos, negsuc, neg_ℤ, ◌+ℤ◌, ◌-ℤ◌, ◌*ℤ◌, subst, sym, arith}
use Rattle.std.proofs.lemmas.Int.{ints}
use Rattle.zic_calendar.specs.Calendar.{IsDate, day_number}
use Rattle.zic_calendar.specs.Laws.{RepeatEvery400Years}
use Rattle.zic_calendar.specs.declared.day_form.On.TheVariants.{Day}

-- the date of a day in one year is one of another day in another
pub record IsMoved (y later : ℤ) (m d : ℕ) (days : ℤ) : Type 0 where
  pub date : IsDate later m d
  pub number : day_number later m d ≡ day_number y m d +ℤ days

module _ (law : RepeatEvery400Years) (m d : ℕ) where
  one_later : (y later : ℤ) → later ≡ y +ℤ pos 400 → IsDate y m d → IsMoved y later m d (pos 146_097)
  one_later y later is date = rw is (record { date = (date.0, (law.fits y m (Day d)).1 date.1); number = law.dates y m d })

  one_sooner : (y sooner : ℤ) → y ≡ sooner +ℤ pos 400 → IsDate y m d → IsMoved y sooner m d (neg_ℤ (pos 146_097))
  one_sooner y sooner is date =
      let moved = subst (λ (z : ℤ). day_number z m d ≡ day_number sooner m d +ℤ pos 146_097) (sym is) (law.dates sooner m d) in
      record {
        date = (date.0, (law.fits sooner m (Day d)).0 (subst (λ (z : ℤ). IsDate z m d) is date).1);
        number = omega (arith, ints, moved);
      }

  later_by : (k : ℕ) (y later : ℤ) → later ≡ y +ℤ pos (400 * k) → IsDate y m d → IsMoved y later m d (pos (146_097 * k))
  later_by zero y later is date =
      let same : later ≡ y = omega (arith, ints, is) in
      rw same (record { date = date; number = omega (arith, ints) })
  later_by (suc k) y later is date =
      let near = later -ℤ pos 400 in
      let rest = later_by k y near (omega (arith, ints, is)) date in
      let last = one_later near later (omega (arith, ints)) rest.date in
      record { date = last.date; number = let a = rest.number in let b = last.number in omega (arith, ints, a, b) }

  sooner_by : (k : ℕ) (y sooner : ℤ) → y ≡ sooner +ℤ pos (400 * k) → IsDate y m d → IsMoved y sooner m d (neg_ℤ (pos (146_097 * k)))
  sooner_by zero y sooner is date =
      let same : sooner ≡ y = omega (arith, ints, is) in
      rw same (record { date = date; number = omega (arith, ints) })
  sooner_by (suc k) y sooner is date =
      let near = sooner +ℤ pos 400 in
      let rest = sooner_by k y near (omega (arith, ints, is)) date in
      let last = one_sooner near sooner (omega (arith, ints)) rest.date in
      record { date = last.date; number = let a = rest.number in let b = last.number in omega (arith, ints, a, b) }

  -- so many periods
  pub moved_by : (periods y moved : ℤ) → moved ≡ y +ℤ (pos 400 *ℤ periods) → IsDate y m d → IsMoved y moved m d (pos 146_097 *ℤ periods)
  moved_by (pos k) y moved is date =
      let there = later_by k y moved (omega (arith, ints, is)) date in
      record { date = there.date; number = let a = there.number in omega (arith, ints, a) }
  moved_by (negsuc k) y moved is date =
      let there = sooner_by (suc k) y moved (omega (arith, ints, is)) date in
      record { date = there.date; number = let a = there.number in omega (arith, ints, a) }
