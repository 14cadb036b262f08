use Rattle.std.proofs.Common.{sym, arith}
use Rattle.zic_row_text.proofs.MarchDates.{dated_late, dated_early}
use Rattle.zic_row_text.proofs.date.date_text.Goals.{then-date-lt-DAYS_TO_JANUARY, else-date-lt-DAYS_TO_JANUARY}
use Rattle.zic_row_text.proofs.date.date_text.Goals as goal

pub returns : goal.returns
returns c =
    let date = c.march_day-date.result in
    let is = c.march_day-date.ensures in
    let year = c.if-date-lt-DAYS_TO_JANUARY.year in
    rw (c.digit_pair.ensures, c.digit_pair-2.ensures, c.day_text.ensures) (elim c.if-date-lt-DAYS_TO_JANUARY.branch [
      | then-date-lt-DAYS_TO_JANUARY w ↦
          sym (dated_late c.args.day date.year date.day year c.requires is.value w.if-date-lt-DAYS_TO_JANUARY.true w.year-is)
      | else-date-lt-DAYS_TO_JANUARY w ↦
          sym (dated_early c.args.day date.year date.day year c.requires is.value is.within is.bound (omega (arith, w.if-date-lt-DAYS_TO_JANUARY.false)) w.year-is)
    ])
