use Rattle.std.proofs.Common.{◌≡◌, ◌%◌, ◌-◌, ◌*◌, ◌/◌, arith}
use Rattle.zic_row_text.proofs.ClockTexts.{clock_written}
use Rattle.zic_row_text.proofs.digits.put_clock.Goals as goal

pub returns-clause-written : goal.returns-clause-written
returns-clause-written c =
    let s = c.args.second in
    let rest : s - 60 * (s / 60) ≡ s % 60 = omega arith in
    clock_written c.args.text.now c.minute_text.result c.second_text.result c.put_8.new.text c.put_8-2.new.text c.args.at s
    c.requires.room c.put_8.ensures.same_length c.put_8.ensures.written c.put_8-2.ensures.written c.minute_text.ensures (rw rest at c.second_text.ensures)
