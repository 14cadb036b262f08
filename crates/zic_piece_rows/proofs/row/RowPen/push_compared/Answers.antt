use Rattle.std.proofs.Common.{◌≡◌, ◌∙◌, ◌++◌, [], ℕ, List, true, ap, append-nil, sym}
use Rattle.std.proofs.lemmas.Result.{on_ok_weaker}
use Rattle.std.specs.List.{list_all}
use Rattle.zic_layouts.specs.declared.row_field.RowField.{RowField}
use Rattle.zic_piece_rows.specs.LayoutRows.{with_answer}
use Rattle.zic_piece_rows.specs.code.Answer.{fields_in, is_unplaced, seen_by}
use Rattle.zic_piece_rows.proofs.KnownRows.{read_other}
use Rattle.zic_piece_rows.proofs.MovedRows.{moved, unmoved}
use Rattle.zic_piece_rows.proofs.SameAnswers.{same_seen}
use Rattle.zic_piece_rows.proofs.Written.{shown_some}
use Rattle.zic_piece_rows.proofs.row.RowPen.push_compared.Goals as goal

pub answer_alone-requires-clause-read : goal.answer_alone-requires-clause-read
answer_alone-requires-clause-read c = λ has. read_other c.args.piece.now c.args.given.now c.args.other.now c.requires.other c.args.asked.time (c.requires.read has)

pub returns-then-are_same : goal.returns-then-are_same
returns-then-are_same c =
    let piece = c.args.piece.now in
    let other = c.args.other.now in
    let given = c.args.given.now in
    let number = c.args.asked.number in
    let answer = c.args.answer.now in
    let theirs = c.in_ok-theirs.theirs in
    let is = c.requires.answered in
    let others = c.in_ok-theirs.ensures in
    let all : list_all is_unplaced (fields_in piece) ≡ true = ap (λ (l : List RowField). list_all is_unplaced l) (sym c.fields.ensures.fields) ∙ sym c.are_unplaced.ensures ∙ c.if-are_unplaced.true in
    let same = same_seen piece other c.requires.other all answer theirs (shown_some piece number given answer is) (shown_some other number given theirs others) (c.are_same.ensures c.if-are_same.true) in
    ([], sym (append-nil c.args.text.now), unmoved piece other c.requires.other number given answer theirs is others same)

pub returns-then-not-branch : goal.returns-then-not-branch
returns-then-not-branch c =
    let same = c.in_ok-is_moved.ensures.0 c.if-not-branch.true in
    ([], sym (append-nil c.args.text.now), unmoved c.args.piece.now c.args.other.now c.requires.other c.args.asked.number c.args.given.now c.args.answer.now c.in_ok-theirs.theirs c.requires.answered c.in_ok-theirs.ensures same)

pub returns : goal.returns
returns c =
    let piece = c.args.piece.now in
    let other = c.args.other.now in
    let unlike : (seen_by piece c.args.answer.now ≡ seen_by other c.in_ok-theirs.theirs → ⊥) = λ same. (let no = c.in_ok-is_moved.ensures.1 same in cc (sym no ∙ c.if-not-branch.false)) in
    on_ok_weaker c.push_moved.result
    (λ pushed.
    let (row, is_row, made) = pushed in (
      _,
      made ∙ ap (λ (l : List ℕ). c.args.text.now ++ with_answer row l) c.in_ok-keep_old.ensures,
      moved piece other c.requires.other c.args.asked.number c.args.given.now c.args.answer.now c.in_ok-theirs.theirs c.requires.answered c.in_ok-theirs.ensures unlike row is_row,
    ))
    c.push_moved.ensures
