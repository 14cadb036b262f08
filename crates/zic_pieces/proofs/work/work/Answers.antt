use Rattle.std.proofs.Common.{◌≡◌, rules, ap, ◌∙◌, arith}
use Rattle.zic_pieces.specs.declared.pass.Known.{Known}
use Rattle.zic_pieces.proofs.Works.{step_end, step_skip, step_keep, step_halt, nearer, report_past}
use Rattle.zic_pieces.proofs.work.work.Goals as goal

pub loop-i-smaller-in-Err : goal.loop-i-smaller-in-Err
loop-i-smaller-in-Err g c =
    let a = c.in-Do.ensures.answer in
    let n = nearer _ _ _ _ a.1 c.claim.ensures.sound in
    let r = report_past _ _ _ c.report.ensures.reported.1 in
    omega arith

pub loop-i-preserved-in-Err : goal.loop-i-preserved-in-Err
loop-i-preserved-in-Err g c =
    let a = c.in-Do.ensures.answer in
    let notified = c.report.ensures.reported in
    let same : c.report.new.pass.known.pieces ≡ c.loop-i.pass.known.pieces = ap (λ (k : Known). k.pieces) notified.1 ∙ ap (λ (k : Known). k.pieces) a.1.3 in
    let parts : c.report.new.pass.known.parts ≡ c.loop-i.pass.known.parts = ap (λ (k : Known). k.parts) notified.1 ∙ ap (λ (k : Known). k.parts) a.1.3 in (
      (notified.0 ∙ (c.claim.ensures.whose ∙ c.loop-i.invariant.0.0), same ∙ c.loop-i.invariant.0.1),
      parts ∙ c.loop-i.invariant.1,
      step_halt _ _ _ _ c.loop-i.invariant.2 _ _ _ _ _ _ a notified.1 c.in-Err.ensures.err.0 c.in-Err.ensures.err.1 c.lesser-halt.ensures,
    )

pub loop-i-smaller-in_default : goal.loop-i-smaller-in_default
loop-i-smaller-in_default g c =
    let a = c.in-Do.ensures.answer in
    nearer _ _ _ _ a.1 c.claim.ensures.sound

pub loop-i-preserved-in_default : goal.loop-i-preserved-in_default
loop-i-preserved-in_default g c =
    let a = c.in-Do.ensures.answer in
    (search rules, ap (λ (k : Known). k.parts) a.1.3 ∙ c.loop-i.invariant.1, step_keep _ _ _ _ c.loop-i.invariant.2 _ _ _ a c.in_default.ensures.ok)

pub loop-i-smaller : goal.loop-i-smaller
loop-i-smaller g c =
    let a = c.in-Skip.ensures.answer in
    nearer _ _ _ _ a.1 c.claim.ensures.sound

pub loop-i-preserved : goal.loop-i-preserved
loop-i-preserved g c =
    let a = c.in-Skip.ensures.answer in
    (search rules, ap (λ (k : Known). k.parts) a.1.3 ∙ c.loop-i.invariant.1, step_skip _ _ _ _ c.loop-i.invariant.2 _ _ a)

pub returns-in-End-clause-work : goal.returns-in-End-clause-work
returns-in-End-clause-work g c = step_end _ _ _ _ c.loop-i.invariant.2 _ c.in-End.ensures.answer
