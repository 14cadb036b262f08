use Rattle.std.proofs.Common.{◌∙◌, ℕ, arith}
use Rattle.std.proofs.lemmas.List.{length-set}
use Rattle.std.specs.Prelude.{slice_index_or}
use Rattle.zic_columns.specs.Record.{IsSplit}
use Rattle.zic_row_text.specs.declared.row_time.RowTime.{RowTime}
use Rattle.zic_piece_rows.specs.code.Answer.{IfTime, IsReadTime}
use Rattle.zic_piece_rows.specs.code.Batch.{blank, blank_time, wanted_by}
use Rattle.zic_piece_rows.proofs.Columns.{more_is, one_of}
use Rattle.zic_piece_rows.proofs.time.read_times.Goals as goal

pub read_time-requires : goal.read_time-requires
read_time-requires c =
    let piece = c.args.piece.now in
    one_of (IsSplit piece.layout.now.delimiter piece.bytes.now (wanted_by piece.layout.now)) c.args.records.now c.args.count c.loop-i.i blank (omega (arith, c.told-records, c.requires.few)) c.loop-i-test.true c.requires.split

pub loop-i-preserved : goal.loop-i-preserved
loop-i-preserved c =
    let l = c.loop-i in
    let piece = c.args.piece.now in
    record {
      long = length-set l.times l.i _ ∙ l.invariant.long;
      read = more_is blank_time (λ (j : ℕ) (time : RowTime). IfTime time (IsReadTime piece (slice_index_or c.args.records.now j blank)))
          l.i l.times _ (omega (arith, l.invariant.long, c.requires.few, c.loop-i-test.true)) l.invariant.read c.read_time.ensures;
    }
