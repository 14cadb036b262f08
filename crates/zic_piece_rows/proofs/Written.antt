-- Rows that are written.
use Rattle.std.proofs.Common.{◌≡◌, ℕ, Bool, List, Option, Some, None, Result, Ok, Err, refl, sym, subst}
use Rattle.zic_base.specs.declared.row_fault.RowKind.{RowKind}
use Rattle.zic_columns.specs.declared.fields.Record.{Record}
use Rattle.std.specs.Prelude.{IfOk}
use Rattle.zic_layouts.specs.declared.row_field.RowField.{RowField}
use Rattle.zic_piece_rows.specs.LayoutRows.{IsAnswer, IsAnswerAt, IsRowAt, IsRowBy, IsSoundAnswer, IsSoundRow}
use Rattle.zic_piece_rows.specs.code.Answer.{IsAnswered, IsRowOf, IsShownRow, IsShownSome, answer_at, answer_or, fault_of, unanswered_text}
use Rattle.zic_piece_rows.specs.code.Batch.{fault_at, record_of}
use Rattle.zic_piece_rows.specs.declared.answer.Answer.{Answer}
use Rattle.zic_piece_rows.specs.declared.piece.Piece.{Piece}
use Rattle.zic_piece_rows.proofs.ShownRows.{answer_text, shown_text}

-- a record with an answer or without one has a row
pub has_row : (piece : Piece) (given : Record) (answer : Result Answer (Option RowKind)) → IfOk answer (IsShownRow piece given) → (row : List ℕ) × IsRowOf piece given answer row
has_row piece given (Ok answer) shown = shown_text piece given answer shown
has_row piece given (Err fault) shown = (unanswered_text piece.layout.now fault (record_of piece given), refl)

module _ (piece : Piece) (number : ℕ) (given : Record) where
  -- its row, by what it is answered as the row of a number
  pub row_by : (answer : Result Answer (Option RowKind)) → IsAnswered piece number given answer → (row : List ℕ) → IsRowOf piece given answer row
      → IsRowBy piece.layout.now piece.zones.now piece.most number (record_of piece given) row
  row_by answer is row of = by answer is of where
    R : Option RowKind → Type 0
    R = λ o. IsRowAt piece.layout.now piece.zones.now o (record_of piece given) row

    S : Bool → Type 0
    S = λ b. IsSoundRow b piece.layout.now piece.zones.now (record_of piece given) row

    by : (answer : Result Answer (Option RowKind)) → IsAnswered piece number given answer → IsRowOf piece given answer row → IsRowBy piece.layout.now piece.zones.now piece.most number (record_of piece given) row
    by (Ok answer) is of = subst R (sym is.0) (subst S (sym is.1) of)
    by (Err None) is of = subst R (sym is.0) (subst S (sym is.1) of)
    by (Err (Some kind)) is of = subst R (sym is.0) of

  -- and what it is answered as some fields
  pub answer_by : (answer : Result Answer (Option RowKind)) → IsAnswered piece number given answer → (fields : List RowField) (without : List ℕ)
      → IsAnswer piece.layout.now fields without piece.zones.now piece.most number (record_of piece given) (answer_or piece fields without answer)
  answer_by answer is fields without = by answer is where
    R : List ℕ → Option RowKind → Type 0
    R = λ text o. IsAnswerAt piece.layout.now fields without piece.zones.now o (record_of piece given) text

    S : List ℕ → Bool → Type 0
    S = λ text b. IsSoundAnswer b piece.layout.now fields without piece.zones.now (record_of piece given) text

    by : (answer : Result Answer (Option RowKind)) → IsAnswered piece number given answer
        → IsAnswer piece.layout.now fields without piece.zones.now piece.most number (record_of piece given) (answer_or piece fields without answer)
    by (Ok answer) is = subst (R (answer_at piece fields answer)) (sym is.0) (subst (S (answer_at piece fields answer)) (sym is.1) (answer_text piece given answer is.2 fields))
    by (Err None) is = subst (R without) (sym is.0) (subst (S without) (sym is.1) refl)
    by (Err (Some kind)) is = subst (R without) (sym is.0) refl

  -- the fault that its row has
  pub fault_is : (answer : Result Answer (Option RowKind)) → IsAnswered piece number given answer → fault_at piece number given ≡ fault_of answer
  fault_is (Ok answer) is = is.0
  fault_is (Err fault) is = is.0

  pub shown_of : (answer : Result Answer (Option RowKind)) → IsAnswered piece number given answer → IfOk answer (IsShownRow piece given)
  shown_of (Ok answer) is = is.2
  shown_of (Err fault) is = tt

  pub shown_some : (answer : Result Answer (Option RowKind)) → IsAnswered piece number given answer → IfOk answer (IsShownSome piece)
  shown_some (Ok answer) is = (given, is.2)
  shown_some (Err fault) is = tt
