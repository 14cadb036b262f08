use Rattle.std.proofs.Common.{◌≡◌, ◌+◌, ◌++◌, ◌∙◌, ◌≤◌, FitsSigned, List, None, ap, arith, refl, rules, sym, to_z-of_z, ℕ}
use Rattle.std.specs.Int.{w64}
use Rattle.std.specs.Prelude.{slice_index_or, slice_range}
use Rattle.std.proofs.lemmas.Option.{same_Some}
use Rattle.zic_row_text.specs.Count.{timed_rest_text}
use Rattle.zic_piece_rows.specs.LayoutRows.{IsWrittenBy}
use Rattle.zic_piece_rows.specs.PieceRows.{RowsOf}
use Rattle.zic_piece_rows.specs.code.Batch.{blank_time}
use Rattle.zic_columns.specs.Record.{pair_record}
use Rattle.zic_piece_rows.specs.code.Pairs.{known_pair, pair_in, pair_of, style_of}
use Rattle.zic_piece_rows.specs.code.Row.{by_both}
use Rattle.zic_piece_rows.proofs.KnownRows.{known_row, known_sound}
use Rattle.zic_piece_rows.proofs.NextRows.{next_sound}
use Rattle.zic_piece_rows.proofs.PlainPairs.{pair_text}
use Rattle.zic_piece_rows.proofs.row.Rows.add_known_pair.Goals as goal

pub returns-clause-next : goal.returns-clause-next
returns-clause-next c =
    let piece = c.args.piece.now in
    let layout = piece.layout.now in
    let batch = c.args.batch.now in
    let place = c.args.place in
    let pair = pair_in batch.pairs.places place in
    let file = slice_index_or batch.shown.files place 0 in
    let time = slice_index_or batch.pairs.times place blank_time in
    let number = slice_index_or batch.shown.numbers place 0 in
    let q = c.self.inside in
    let old : RowsOf = record { text = q.text; count = q.count; fault = q.fault; faults = q.faults.items } in
    let at = c.requires.at in
    let (state, got, known) = at.state c.requires.known in
    let shown : c.text.result.now ≡ state = same_Some c.text.result.now state (sym c.text.ensures ∙ got) in
    let text = pair_text piece pair at.layout at.pair time file number state known in
    let row = slice_range piece.bytes.now pair.start pair.«end» ++ timed_rest_text layout.delimiter (style_of layout.fields) layout.unit time.second time.fraction state in
    let second : FitsSigned w64 time.second = search rules in
    let made = rw (c.requires.form, c.byte.ensures.byte, shown, to_z-of_z second) at c.in_ok-push_row.ensures in
    let counted : q.count ≡ c.args.self.now.count = ap (λ (r : RowsOf). r.count) c.self.view_is in
    let may : piece.first + q.count ≤ piece.most = omega (arith, counted, at.may c.requires.known) in
    let none = known_sound piece (pair_record pair) time (known_pair file time number) state known (piece.first + q.count) at.pair.split may in
    let by = known_row piece (pair_record pair) time (known_pair file time number) state known (piece.first + q.count) at.pair.split may row text in
    let written : IsWrittenBy layout (by_both piece None) piece.most (piece.first + q.count) (pair_of piece pair) row = record { row = row; is_row = by; is = rw at.layout.line_end refl } in
    rw (← c.self.view_is) (next_sound layout (by_both piece None) piece.most (piece.first + q.count) (pair_of piece pair) old _ none row written
    (ap (λ (l : List ℕ). record { text = l; count = q.count + 1; fault = q.fault; faults = q.faults.items }) made))
