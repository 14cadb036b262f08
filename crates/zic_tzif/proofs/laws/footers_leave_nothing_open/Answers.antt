use Rattle.zic_tzif.proofs.laws.footers_leave_nothing_open.Goals as goal

pub returns : goal.returns
returns c = λ content t some left_open. some left_open.no_footer
