-- Rows that are written only if another release answers differently.
use Rattle.std.proofs.Common.{◌≡◌, ℕ, List, [], Option, Result, refl}
use Rattle.zic_base.specs.declared.row_fault.RowKind.{RowKind}
use Rattle.zic_columns.specs.declared.fields.Record.{Record}
use Rattle.zic_piece_rows.specs.LayoutRows.{IsMovedRow, with_answer}
use Rattle.zic_piece_rows.specs.code.Answer.{IsAnswered, IsOfPiece, IsRowOf, compared_in, seen_by, shown_by}
use Rattle.zic_piece_rows.specs.code.Batch.{record_of}
use Rattle.zic_piece_rows.specs.declared.answer.Answer.{Answer}
use Rattle.zic_piece_rows.specs.declared.piece.Piece.{Piece}
use Rattle.zic_piece_rows.proofs.SameAnswers.{other_seen, other_shown}
use Rattle.zic_piece_rows.proofs.Written.{answer_by, has_row, row_by, shown_of}

module _ (piece other : Piece) (of : IsOfPiece piece other) (number : ℕ) (given : Record) (answer theirs : Result Answer (Option RowKind))
    (is : IsAnswered piece number given answer) (others : IsAnswered other number given theirs) where
  -- nothing is written of a record, where both give what is compared alike
  pub unmoved : seen_by piece answer ≡ seen_by other theirs → IsMovedRow piece.layout.now piece.zones.now other.zones.now piece.most number (record_of piece given) []
  unmoved same =
      let (whole, is_row) = has_row piece given answer (shown_of piece number given answer is) in
      record {
        row = whole;
        is_row = row_by piece number given answer is whole is_row;
        seen = seen_by piece answer;
        is_seen = answer_by piece number given answer is (compared_in piece) [];
        old_seen = seen_by other theirs;
        is_old_seen = other_seen piece other of given number theirs others;
        old_answer = shown_by other theirs;
        is_old_answer = other_shown piece other of given number theirs others;
        same = λ _. refl;
        moved = λ unlike. absurd (unlike same);
      }

  -- and its row is, where they don't
  pub moved : (seen_by piece answer ≡ seen_by other theirs → ⊥) → (row : List ℕ) → IsRowOf piece given answer row
      → IsMovedRow piece.layout.now piece.zones.now other.zones.now piece.most number (record_of piece given) (with_answer row (shown_by other theirs))
  moved unlike row is_row = record {
    row = row;
    is_row = row_by piece number given answer is row is_row;
    seen = seen_by piece answer;
    is_seen = answer_by piece number given answer is (compared_in piece) [];
    old_seen = seen_by other theirs;
    is_old_seen = other_seen piece other of given number theirs others;
    old_answer = shown_by other theirs;
    is_old_answer = other_shown piece other of given number theirs others;
    same = λ e. absurd (unlike e);
    moved = λ _. refl;
  }
