use Rattle.std.proofs.Common.{◌≡◌, List, ℕ, inl, refl, subst}
use Rattle.std.proofs.lemmas.Result.{err_from_is_err_and, on_ok_weaker}
use Rattle.zic_counted.specs.Written.{Writes}
use Rattle.zic_dump.specs.Text.{IsDump}
use Rattle.zic_bulk.specs.FailingToPrint.{IsFailureOfFile}
use Rattle.zic_io.proofs.OutputLemmas.{unwritten}
use Rattle.zic_bulk.proofs.ReadingLemmas.{read_stop}
use Rattle.zic_bulk.proofs.dump_command.dump.Goals as goal

pub returns-in_err-text-clause-err : goal.returns-in_err-text-clause-err
returns-in_err-text-clause-err g c =
    let p = err_from_is_err_and c.from_residual.result c.from_residual.ensures.1 in
    rw (p.1, p.2) (inl (read_stop c.args.bytes.now c.in_err-text.field-0.0 c.in_err-text.ensures.err, refl))

pub returns-clause-ok : goal.returns-clause-ok
returns-clause-ok g c =
    let text = c.in_ok-text.text.items in
    let old = c.args.writer.now in
    let new = c.write_output.new.writer in
    on_ok_weaker c.write_output.result
    (λ writes. record {
      output = text;
      is_output = c.in_ok-text.ensures.ok;
      writes = subst (λ (l : List ℕ). Writes g.W.Write.contents old new l) c.deref.ensures.value writes;
    })
    c.write_output.ensures.ok

pub returns-clause-err : goal.returns-clause-err
returns-clause-err g c =
    let bytes = c.args.bytes.now in
    let is_dump = IsDump c.args.path.now bytes c.args.years.now in
    let slice = c.deref.result.now in
    let is_output : is_dump slice = rw c.deref.ensures.value c.in_ok-text.ensures.ok in
    unwritten c.write_output.result (λ failure. IsFailureOfFile bytes failure × (c.write_output.new.writer ≡ c.args.writer.now))
    g.W.Write.contents is_dump c.args.writer.now c.write_output.new.writer slice is_output
    c.write_output.ensures.failure c.write_output.ensures.fails
