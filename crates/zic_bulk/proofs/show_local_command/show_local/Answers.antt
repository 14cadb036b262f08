use Rattle.std.proofs.Common.{◌≡◌, List, ℕ, inl, refl, subst}
use Rattle.std.proofs.lemmas.Result.{err_from_is_err_and, on_ok_weaker}
use Rattle.zic_counted.specs.Written.{Writes}
use Rattle.zic_bulk.specs.FailingToPrint.{IsFailureOfFile}
use Rattle.zic_bulk.specs.Showing.{IsShowingLocal}
use Rattle.zic_io.proofs.OutputLemmas.{unwritten}
use Rattle.zic_bulk.proofs.show_local_command.show_local.Goals as goal

pub returns-in_err-lines-clause-err : goal.returns-in_err-lines-clause-err
returns-in_err-lines-clause-err g c =
    let p = err_from_is_err_and c.from_residual.result c.from_residual.ensures.1 in
    rw (p.1, p.2) (inl (c.in_err-lines.ensures.err, refl))

pub returns-clause-ok : goal.returns-clause-ok
returns-clause-ok g c =
    let lines = c.in_ok-lines.lines.items in
    let old = c.args.writer.now in
    let new = c.write_output.new.writer in
    on_ok_weaker c.write_output.result
    (λ writes. record {
      output = lines;
      is_output = c.in_ok-lines.ensures.ok;
      writes = subst (λ (l : List ℕ). Writes g.W.Write.contents old new l) c.deref.ensures.value writes;
    })
    c.write_output.ensures.ok

pub returns-clause-err : goal.returns-clause-err
returns-clause-err g c =
    let bytes = c.args.bytes.now in
    let local = c.args.local.now in
    let slice = c.deref.result.now in
    let is_output : IsShowingLocal bytes local slice = rw c.deref.ensures.value c.in_ok-lines.ensures.ok in
    unwritten c.write_output.result (λ failure. IsFailureOfFile bytes failure × (c.write_output.new.writer ≡ c.args.writer.now))
    g.W.Write.contents (IsShowingLocal bytes local) c.args.writer.now c.write_output.new.writer slice is_output
    c.write_output.ensures.failure c.write_output.ensures.fails
