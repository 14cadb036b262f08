use Rattle.std.proofs.Common.{◌≡◌, ◌+◌, List, Option, None, Some, ◌∙◌, false, ap, arith, length, length-append, refl, subst, sym, ℕ}
use Rattle.std.specs.Prelude.{IsSome, is_some, slice_index_or}
use Rattle.std.proofs.lemmas.Option.{same_Some}
use Rattle.zic_piece_rows.specs.LayoutRows.{IsWrittenBy, IsWrittenWith, ended}
use Rattle.zic_piece_rows.specs.PieceRows.{RowsOf}
use Rattle.zic_piece_rows.specs.code.Answer.{shown_in, unknown}
use Rattle.zic_piece_rows.specs.code.Batch.{blank, blank_time, record_of}
use Rattle.zic_piece_rows.specs.code.Row.{by_both, files_of}
use Rattle.zic_piece_rows.specs.declared.piece.Piece.{Piece}
use Rattle.zic_piece_rows.proofs.KnownRows.{known_row, known_shown, known_sound}
use Rattle.zic_piece_rows.proofs.LineEnds.{row_ended}
use Rattle.zic_piece_rows.proofs.NextRows.{next_sound}
use Rattle.zic_piece_rows.proofs.row.Rows.add.Goals as goal

-- there is no other release
no_other : (other : Option Piece) → false ≡ is_some other → other ≡ None
no_other None is = refl
no_other (Some piece) is = absurd (cc is)

pub answer-answer-requires-clause-file : goal.answer-answer-requires-clause-file
answer-answer-requires-clause-file c = let (state, got, is) = c.requires.at.found.answer c.if-known.false in subst IsSome (sym is.named) refl

pub push_row-requires-clause-shown : goal.push_row-requires-clause-shown
push_row-requires-clause-shown c =
    let piece = c.args.piece.now in
    let batch = c.args.batch.now in
    let place = c.args.place in
    let answer = c.answer-answer.ensures in
    let (state, got, is) = c.requires.at.found.answer c.if-known.false in
    known_shown piece (slice_index_or batch.records place blank) (slice_index_or batch.times place blank_time) (slice_index_or batch.answers.known place unknown) state is c.answer-answer.result answer.file answer.input answer.time
    (same_Some state (shown_in c.answer-answer.result.state) (sym got ∙ answer.state))

pub end_row-requires : goal.end_row-requires
end_row-requires c =
    let (row, text, of) = c.in_ok-push_row.ensures in
    omega (arith, c.len-start.ensures, ap length text, length-append c.self.inside.text row)

pub returns : goal.returns
returns c =
    let piece = c.args.piece.now in
    let layout = piece.layout.now in
    let batch = c.args.batch.now in
    let place = c.args.place in
    let releases = by_both piece (files_of c.args.other.now) in
    let given = slice_index_or batch.records place blank in
    let time = slice_index_or batch.times place blank_time in
    let q = c.self.inside in
    let old : RowsOf = record { text = q.text; count = q.count; fault = q.fault; faults = q.faults.items } in
    let number = piece.first + q.count in
    let (state, got, is) = c.requires.at.found.answer c.if-known.false in
    let none = known_sound piece given time (slice_index_or batch.answers.known place unknown) state is number c.requires.at.split c.if-piece-number.false in
    let (row, text, of) = c.in_ok-push_row.ensures in
    let by_fault = known_row piece given time (slice_index_or batch.answers.known place unknown) state is number c.requires.at.split c.if-piece-number.false row of in
    let by = subst (λ (o : Option Piece). IsWrittenWith (files_of o) layout piece.zones.now piece.most number (record_of piece given) row) (sym (no_other c.args.other.now c.if-is_some.ensures)) by_fault in
    let written : IsWrittenBy layout releases piece.most number (record_of piece given) (ended layout.line_end row) = record { row = row; is_row = by; is = refl } in
    let made = row_ended layout.line_end q.text row c.push_row.new.text _ text (rw c.len-start.ensures at c.in_ok-end_row.ensures) in
    rw (← c.self.view_is) (next_sound layout releases piece.most number (record_of piece given) old _ none (ended layout.line_end row) written
    (ap (λ (l : List ℕ). record { text = l; count = q.count + 1; fault = q.fault; faults = q.faults.items }) made))
