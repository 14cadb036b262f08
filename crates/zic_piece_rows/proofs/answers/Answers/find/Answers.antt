use Rattle.std.proofs.Common.{◌≡◌, ◌∙◌, ℕ, arith}
use Rattle.std.proofs.lemmas.List.{length-set}
use Rattle.std.specs.Prelude.{slice_index_or}
use Rattle.zic_columns.specs.Record.{IsSplit}
use Rattle.zic_piece_rows.specs.code.Answer.{IsFound, unknown}
use Rattle.zic_piece_rows.specs.code.Batch.{blank, blank_time, wanted_by, zone_at}
use Rattle.zic_piece_rows.specs.declared.answer.TableAnswer.{TableAnswer}
use Rattle.zic_piece_rows.proofs.Columns.{more_is, one_of, others_stay}
use Rattle.zic_piece_rows.proofs.answers.Answers.find.Goals as goal

pub known_at-requires-clause-split : goal.known_at-requires-clause-split
known_at-requires-clause-split c =
    let piece = c.args.piece.now in
    one_of (IsSplit piece.layout.now.delimiter piece.bytes.now (wanted_by piece.layout.now)) c.args.records.now c.args.count c.loop-i.i blank (omega (arith, c.told-records, c.requires.few)) c.loop-i-test.true c.requires.split

pub known_at-requires-clause-zone : goal.known_at-requires-clause-zone
known_at-requires-clause-zone c = c.loop-i.invariant.left c.loop-i.i (omega arith) c.loop-i-test.true

pub known_at-requires-clause-time : goal.known_at-requires-clause-time
known_at-requires-clause-time c = c.requires.times c.loop-i.i c.loop-i-test.true

pub loop-i-preserved : goal.loop-i-preserved
loop-i-preserved c =
    let l = c.loop-i in
    let piece = c.args.piece.now in
    record {
      long = length-set l.self.known l.i _ ∙ l.invariant.long;
      files = l.invariant.files;
      found = more_is unknown (λ (j : ℕ) (known : TableAnswer). IsFound piece (slice_index_or c.args.records.now j blank) (slice_index_or c.args.times.now j blank_time) l.self.states.states known)
          l.i l.self.known _ (omega (arith, l.invariant.long, c.requires.few, c.loop-i-test.true)) l.invariant.found c.known_at.ensures;
      left = others_stay unknown (λ (j : ℕ) (known : TableAnswer). known.file ≡ zone_at piece (slice_index_or c.args.records.now j blank)) l.i c.args.count l.self.known _ l.invariant.left;
    }
