use Rattle.std.proofs.Common.{ℤ, [], inl, refl, sym, subst, append-nil, FitsSigned, to_z-of_z, w64, rules}
use Rattle.zic_compare.specs.Answers.{pair}
use Rattle.zic_compare.specs.Summary.{AgreeFrom}
use Rattle.zic_compare.proofs.summary.push_summary.Goals as goal

pub returns-in-None : goal.returns-in-None
returns-in-None c =
    let p = pair c.args.old.now c.args.new.now c.args.survey.now.compared in
    let fits : FitsSigned w64 c.args.survey.now.since = search rules in
    let agree = subst (λ (s : ℤ). AgreeFrom p s) (to_z-of_z fits) (rw c.in-None.is at c.in_ok-summary.ensures) in
    ([], inl (agree, refl), sym (append-nil c.args.lines.now.items))
