use Rattle.std.proofs.Common.{sym}
use Rattle.std.proofs.lemmas.Result.{err_from_is_err_and}
use Rattle.zic_lines.proofs.RuleLines.{years_fail, not_reserved, moment_fails}
use Rattle.zic_lines.proofs.rule_line.rule_times.Goals as goal

pub returns-in_err-years-clause-fault : goal.returns-in_err-years-clause-fault
returns-in_err-years-clause-fault c =
    let p = err_from_is_err_and c.from_residual.result c.from_residual.ensures.1 in
    rw (p.1, p.2) (years_fail c.args.from.now c.args.to.now c.args.reserved.now c.args.month.now c.args.day.now c.args.time.now
    c.in_err-years.field-0.0 c.in_err-years.ensures.fault)

pub returns-then-not-is_dash-clause-fault : goal.returns-then-not-is_dash-clause-fault
returns-then-not-is_dash-clause-fault c =
    not_reserved c.args.from.now c.args.to.now c.args.reserved.now c.args.month.now c.args.day.now c.args.time.now
    c.in_ok-years.years c.in_ok-years.ensures.says (sym c.if-not-is_dash.ensures)

pub returns-in_err-moment-clause-fault : goal.returns-in_err-moment-clause-fault
returns-in_err-moment-clause-fault c =
    let p = err_from_is_err_and c.from_residual-in_err-moment.result c.from_residual-in_err-moment.ensures.1 in
    rw (p.1, p.2) (moment_fails c.args.from.now c.args.to.now c.args.reserved.now c.args.month.now c.args.day.now c.args.time.now
    c.in_ok-years.years c.in_ok-years.ensures.says (sym c.if-not-is_dash.ensures) c.in_err-moment.field-0.0 c.in_err-moment.ensures.fault)

pub returns-clause-says : goal.returns-clause-says
returns-clause-says c = record {
  years = c.in_ok-years.ensures.says;
  unused = sym c.if-not-is_dash.ensures;
  moment = c.in_ok-moment.ensures.says;
}
