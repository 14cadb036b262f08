use Rattle.std.proofs.Common.{◌≡◌, ◌∙◌, ℕ, arith}
use Rattle.std.proofs.lemmas.List.{length-set}
use Rattle.std.specs.Prelude.{slice_index_or}
use Rattle.zic_columns.specs.Record.{IsSplit}
use Rattle.zic_piece_rows.specs.code.Answer.{unknown}
use Rattle.zic_piece_rows.specs.code.Batch.{blank, wanted_by, zone_at}
use Rattle.zic_piece_rows.specs.declared.answer.TableAnswer.{TableAnswer}
use Rattle.zic_piece_rows.proofs.Columns.{more_is, one_of}
use Rattle.zic_piece_rows.proofs.answers.find_files.Goals as goal

pub file_of-requires-clause-split : goal.file_of-requires-clause-split
file_of-requires-clause-split c =
    let piece = c.args.piece.now in
    one_of (IsSplit piece.layout.now.delimiter piece.bytes.now (wanted_by piece.layout.now)) c.args.records.now c.args.count c.loop-i.i blank
    (omega (arith, c.told-records, c.requires.few)) c.loop-i-test.true c.requires.split

pub loop-i-preserved : goal.loop-i-preserved
loop-i-preserved c =
    let l = c.loop-i in
    record {
      long = length-set l.known l.i _ ∙ l.invariant.long;
      files = more_is unknown (λ (j : ℕ) (known : TableAnswer). known.file ≡ zone_at c.args.piece.now (slice_index_or c.args.records.now j blank))
          l.i l.known _ (omega (arith, l.invariant.long, c.requires.few, c.loop-i-test.true)) l.invariant.files c.in_ok-file.ensures;
    }
