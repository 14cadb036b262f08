use Rattle.std.proofs.Common.{◌≡◌, ℤ, pos, ◌+ℤ◌, unsigned_abs, subst, arith, rules}
use Rattle.std.specs.Int.{int_div_euclid, int_rem_euclid}
use Rattle.zic_calendar.specs.Civil.{IsOnDay}
use Rattle.zic_calendar.specs.Calendar.{is_leap_year}
use Rattle.zic_calendar.proofs.FormLemmas.{month_length_bounds}
use Rattle.zic_dump.proofs.line.local_time.Goals as goal

pub returns-clause-written : goal.returns-clause-written
returns-clause-written c =
    let local = c.civil.result in
    let date = c.civil.ensures.date.0 in
    let time = c.civil.ensures.time in
    let days = (month_length_bounds (is_leap_year local.year) local.month).1 in
    record {
      year = c.civil.ensures.year;
      month = let month = date.0.1 in omega (arith, month);
      day = let day = date.1.1 in omega (arith, day, days);
      hour = let hour = time.0 in omega (arith, hour);
      minute = let minute = time.1 in omega (arith, minute);
      second = let second = time.2 in omega (arith, second);
    }

pub returns-clause-local : goal.returns-clause-local
returns-clause-local c =
    let local = c.civil.result in
    let second = c.args.t +ℤ c.args.state.now.offset in
    let day_is : c.div_euclid.result ≡ int_div_euclid second (pos 86_400) = search rules in
    let second_is : c.second_of_day.result ≡ unsigned_abs (int_rem_euclid second (pos 86_400)) = search rules in
    let on_day : IsOnDay c.div_euclid.result local = search rules in
    let time = c.civil.ensures.time in
    record {
      date = subst (λ (d : ℤ). IsOnDay d local) day_is on_day;
      time = (time.0, time.1, time.2, let same = time.3 in omega (arith, same, second_is));
    }
