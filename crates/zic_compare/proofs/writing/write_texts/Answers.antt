use Rattle.std.proofs.Common.{◌∙◌, List, ℕ, refl, subst, arith}
use Rattle.std.proofs.lemmas.Result.{err_from_is_err_and}
use Rattle.zic_compare.specs.Text.{with_names}
use Rattle.zic_compare.proofs.WritingLemmas.{fails_in_texts, writes_none}
use Rattle.zic_counted.specs.Written.{FailsWithin}
use Rattle.zic_compare.proofs.writing.write_texts.Goals as goal

pub loop-text-init : goal.loop-text-init
loop-text-init g c = (refl, writes_none g.W.Write.contents c.args.writer.now)

pub returns-in_err-left-clause-err : goal.returns-in_err-left-clause-err
returns-in_err-left-clause-err g c =
    let contents = g.W.Write.contents in
    let before = c.loop-text.writer in
    let after = c.write_lines.new.writer in
    let left = c.loop-text.left.now in
    let fails = subst (λ (l : List ℕ). FailsWithin contents before after (with_names left l)) (c.deref.ensures.value ∙ c.text.view_is) c.in_err-left.ensures.err in
    let p = err_from_is_err_and c.from_residual.result c.from_residual.ensures.1 in
    rw p.1 (fails_in_texts contents c.args.writer.now before after c.args.names.now left c.args.texts.now c.loop-text.text-index c.text-item.result (omega arith) c.text-item.is
    c.loop-text.invariant.0 c.loop-text.invariant.1 fails)
