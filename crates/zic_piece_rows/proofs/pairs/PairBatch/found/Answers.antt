use Rattle.std.proofs.Common.{◌∙◌, sym}
use Rattle.zic_piece_rows.proofs.pairs.PairBatch.found.Goals as goal

pub returns-clause-read : goal.returns-clause-read
returns-clause-read c = λ has.
    let (state, got, known) = c.requires.state c.if-state.false in
    rw c.requires.given known.read

pub returns-clause-found : goal.returns-clause-found
returns-clause-found c =
    let (state, got, known) = c.requires.state c.if-state.false in
    rw c.requires.given (record {
      file = known.named ∙ sym known.query.file;
      answer = λ says. (state, got, known);
    })
