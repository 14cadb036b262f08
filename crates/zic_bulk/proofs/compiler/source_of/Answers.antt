use Rattle.std.proofs.Common.{◌∙◌, ap, sym}
use Rattle.std.proofs.lemmas.List.{length-map}
use Rattle.zic_source.specs.Texts.{texts_of}
use Rattle.zic_compile.proofs.Stops.{reading_stop}
use Rattle.zic_io.specs.Failing.{run_failure}
use Rattle.zic_bulk.proofs.compiler.source_of.Goals as goal

pub returns-in-Err-clause-err : goal.returns-in-Err-clause-err
returns-in-Err-clause-err c = record {
  stop = c.from.result;
  is_stop = rw c.from.ensures (reading_stop (texts_of c.args.texts.now) c.in-Err.stop c.in-Err.ensures.first c.in-Err.ensures.memory);
  is = c.run_failure.ensures ∙ ap (run_failure c.from.result) (sym (length-map c.args.texts.now (λ text. text.items)));
}
