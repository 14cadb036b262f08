use Rattle.std.proofs.Common.{◌++◌, ◌∙◌, List, ap, append_assoc, refl, sym, ℕ}
use Rattle.std.proofs.lemmas.Result.{on_ok_weaker}
use Rattle.zic_columns.specs.Record.{bytes_at}
use Rattle.zic_zones.specs.Zones.{zone_in}
use Rattle.zic_piece_rows.specs.LayoutRows.{beginning}
use Rattle.zic_piece_rows.specs.code.Answer.{answer_at, first_at, following_in}
use Rattle.zic_piece_rows.specs.code.Batch.{input_in, record_of}
use Rattle.zic_piece_rows.proofs.ShownRows.{row_made}
use Rattle.zic_piece_rows.proofs.text.push_row.Goals as goal

pub push_rest-requires-clause-shown : goal.push_rest-requires-clause-shown
push_rest-requires-clause-shown c = (c.args.given.now, c.requires.shown)

pub returns : goal.returns
returns c =
    let piece = c.args.piece.now in
    let layout = piece.layout.now in
    let given = c.args.given.now in
    let answer = c.args.answer.now in
    let old = c.args.text.now in
    let row_record = record_of piece given in
    let start = beginning layout.start layout.delimiter layout.time row_record.own (zone_in layout.zone row_record.fields) (input_in piece given answer.input) (first_at piece answer) in
    let rest = answer_at piece (following_in piece) answer in
    let last = bytes_at piece.bytes.now c.in_ok-last.last in
    on_ok_weaker c.push_rest.result
    (λ is. (
      start ++ rest,
      is ∙ sym (append_assoc c.push_start.new.text last rest) ∙ ap (λ (l : List ℕ). l ++ rest) c.in_ok-last.ensures.text ∙ append_assoc old start rest,
      row_made piece given answer c.requires.shown _ refl,
    ))
    c.push_rest.ensures
