use Rattle.std.proofs.Common.{◌≡◌, List, ℕ, inl, refl, subst, FitsSigned, w64}
use Rattle.std.proofs.lemmas.Int.{to_z-of_z}
use Rattle.std.proofs.lemmas.Result.{err_from_is_err_and, on_ok_weaker}
use Rattle.zic_counted.specs.Written.{Writes}
use Rattle.zic_bulk.specs.FailingToPrint.{IsFailureOfFile}
use Rattle.zic_bulk.specs.Showing.{IsShowingNext}
use Rattle.zic_io.proofs.OutputLemmas.{unwritten}
use Rattle.zic_bulk.proofs.show_next_command.show_next.Goals as goal

pub returns-in_err-line-clause-err : goal.returns-in_err-line-clause-err
returns-in_err-line-clause-err g c =
    let p = err_from_is_err_and c.from_residual.result c.from_residual.ensures.1 in
    rw (p.1, p.2) (inl (c.in_err-line.ensures.err, refl))

pub returns-clause-ok : goal.returns-clause-ok
returns-clause-ok g c =
    let fits : FitsSigned w64 c.args.after = c.ranges.after in
    let of_line = simp to_z-of_z at c.in_ok-line.ensures.ok in
    let line = c.in_ok-line.line.items in
    let old = c.args.writer.now in
    let new = c.write_output.new.writer in
    on_ok_weaker c.write_output.result
    (λ writes. record {
      output = line;
      is_output = of_line;
      writes = subst (λ (l : List ℕ). Writes g.W.Write.contents old new l) c.deref.ensures.value writes;
    })
    c.write_output.ensures.ok

pub returns-clause-err : goal.returns-clause-err
returns-clause-err g c =
    let fits : FitsSigned w64 c.args.after = c.ranges.after in
    let of_line = simp to_z-of_z at c.in_ok-line.ensures.ok in
    let bytes = c.args.bytes.now in
    let slice = c.deref.result.now in
    let is_output : IsShowingNext bytes c.args.schedule.now c.args.after slice = rw c.deref.ensures.value of_line in
    unwritten c.write_output.result (λ failure. IsFailureOfFile bytes failure × (c.write_output.new.writer ≡ c.args.writer.now))
    g.W.Write.contents (IsShowingNext bytes c.args.schedule.now c.args.after) c.args.writer.now c.write_output.new.writer slice is_output
    c.write_output.ensures.failure c.write_output.ensures.fails
