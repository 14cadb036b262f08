use Rattle.std.proofs.Common.{◌∙◌, ℕ, arith}
use Rattle.std.specs.Prelude.{slice_index_or}
use Rattle.std.proofs.lemmas.List.{length-set}
use Rattle.zic_piece_rows.specs.code.Batch.{blank_time}
use Rattle.zic_piece_rows.specs.code.Pairs.{IfState, pair_in}
use Rattle.zic_piece_rows.proofs.Columns.{more_is}
use Rattle.zic_piece_rows.proofs.pairs.find_states.Goals as goal

pub find_state-requires-clause-pair : goal.find_state-requires-clause-pair
find_state-requires-clause-pair c = c.requires.pairs.are c.loop-i.i c.loop-i-test.true

pub find_state-requires-clause-file : goal.find_state-requires-clause-file
find_state-requires-clause-file c = c.requires.found c.loop-i.i c.loop-i-test.true

pub find_state-requires-clause-time : goal.find_state-requires-clause-time
find_state-requires-clause-time c = c.requires.times c.loop-i.i c.loop-i-test.true

pub loop-i-preserved : goal.loop-i-preserved
loop-i-preserved c =
    let l = c.loop-i in
    let pairs = c.args.pairs.now in
    record {
      long = length-set l.numbers l.i _ ∙ l.invariant.long;
      found = more_is 0 (λ (j number : ℕ). IfState c.args.piece.now (pair_in pairs.places j) (slice_index_or c.args.files.now j 0) (slice_index_or pairs.times j blank_time) c.args.states.now.states number)
          l.i l.numbers _ (omega (arith, l.invariant.long, c.requires.pairs.few, c.loop-i-test.true)) l.invariant.found c.find_state.ensures;
    }
