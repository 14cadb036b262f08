use Rattle.std.proofs.Common.{ℕ, List, ◌++◌, ap, ◌∙◌}
use Rattle.std.proofs.lemmas.Result.{on_ok_weaker}
use Rattle.zic_base.specs.State.{shown}
use Rattle.zic_dump.specs.code.Written.{text_with}
use Rattle.zic_dump.proofs.line.push_state.Goals as goal

pub returns : goal.returns
returns c =
    let state = shown c.args.state.now in
    on_ok_weaker c.push_state_of.result
    (λ e. e ∙ ap (λ (offset : List ℕ). c.args.text.now.items ++ text_with offset state) (c.deref.ensures.value ∙ c.in_ok-offset.ensures)) c.push_state_of.ensures
