use Rattle.std.proofs.Common.{◌≡◌, ◌++◌, refl, subst, FitsSigned, w64}
use Rattle.std.proofs.lemmas.Int.{to_z-of_z}
use Rattle.std.proofs.lemmas.Result.{on_ok_weaker}
use Rattle.zic_base.specs.State.{Shown}
use Rattle.zic_tzif.specs.Answer.{answered}
use Rattle.zic_dump.specs.Changes.{IsLocalAt}
use Rattle.zic_dump.specs.Text.{line_text}
use Rattle.zic_dump.proofs.line.push_change.Goals as goal

pub returns : goal.returns
returns c =
    let fits : FitsSigned w64 c.args.t = c.ranges.t in
    let local = c.local_time-local.result in
    let local_is = simp to_z-of_z at c.local_time-local.ensures.local in
    let is = c.shown_for-state.ensures in
    let old = c.args.text.now.items in
    let new = c.push_line.new.text.items in
    on_ok_weaker c.push_line.result
    (λ line. (
      record { instant = c.args.t; answer = answered c.args.answer.now; local = local },
      refl,
      refl,
      subst (λ (s : Shown). IsLocalAt c.args.t s local) is local_is,
      subst (λ (s : Shown). new ≡ old ++ line_text local s) is line,
    ))
    c.push_line.ensures
