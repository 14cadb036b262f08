use Rattle.std.proofs.Common.{◌≡◌, List, ℕ, subst}
use Rattle.std.proofs.lemmas.Result.{on_ok_weaker}
use Rattle.zic_source.specs.Texts.{texts_of}
use Rattle.zic_counted.specs.Written.{Writes}
use Rattle.zic_bulk.specs.Failing.{IsFailureOfListing}
use Rattle.zic_bulk.specs.Text.{IsListing}
use Rattle.zic_io.proofs.OutputLemmas.{unwritten}
use Rattle.zic_bulk.proofs.check_command.check.Goals as goal

pub returns-clause-ok : goal.returns-clause-ok
returns-clause-ok g c =
    let old = c.args.writer.now in
    let new = c.write_output.new.writer in
    on_ok_weaker c.write_output.result
    (λ writes. record {
      output = c.in_ok-lines.lines.items;
      is_output = c.in_ok-lines.ensures.ok;
      writes = subst (λ (l : List ℕ). Writes g.W.Write.contents old new l) c.deref.ensures.value writes;
    })
    c.write_output.ensures.ok

pub returns-clause-err : goal.returns-clause-err
returns-clause-err g c =
    let texts = texts_of c.args.texts.now in
    let slice = c.deref.result.now in
    let is_output : IsListing texts slice = rw c.deref.ensures.value c.in_ok-lines.ensures.ok in
    unwritten c.write_output.result (λ failure. IsFailureOfListing texts failure × (c.write_output.new.writer ≡ c.args.writer.now))
    g.W.Write.contents (IsListing texts) c.args.writer.now c.write_output.new.writer slice is_output
    c.write_output.ensures.failure c.write_output.ensures.fails
