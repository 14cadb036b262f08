use Rattle.std.proofs.Common.{◌∙◌, ℕ, arith}
use Rattle.std.proofs.lemmas.List.{length-set}
use Rattle.zic_row_text.specs.declared.row_time.RowTime.{RowTime}
use Rattle.zic_piece_rows.specs.code.Answer.{IfTime, IsReadTime}
use Rattle.zic_piece_rows.specs.code.Batch.{blank_time}
use Rattle.zic_columns.specs.Record.{pair_record}
use Rattle.zic_piece_rows.specs.code.Pairs.{pair_in}
use Rattle.zic_piece_rows.proofs.Columns.{more_is}
use Rattle.zic_piece_rows.proofs.pairs.read_times_in.Goals as goal

pub read_time-requires-clause-pair : goal.read_time-requires-clause-pair
read_time-requires-clause-pair c = c.requires.pairs.are c.loop-i.i c.loop-i-test.true

pub loop-i-preserved : goal.loop-i-preserved
loop-i-preserved c =
    let l = c.loop-i in
    record {
      long = length-set l.times l.i _ ∙ l.invariant.long;
      read = more_is blank_time (λ (j : ℕ) (time : RowTime). IfTime time (IsReadTime c.args.piece.now (pair_record (pair_in c.args.pairs.now j))))
          l.i l.times _ (omega (arith, l.invariant.long, c.requires.pairs.few, c.loop-i-test.true)) l.invariant.read c.read_time.ensures;
    }
