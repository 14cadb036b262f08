-- How far the rows of a piece have been made.
use Rattle.std.proofs.Common.{◌≡◌, ◌+◌, ◌∙◌, ℕ, List, [], ◌++◌, length, Option, Some, None, ap, append_assoc, arith, length-append, refl, sym}
use Rattle.std.specs.Prelude.{IsSome, false, is_some}
use Rattle.std.proofs.lemmas.List.{append-nil}
use Rattle.zic_base.specs.declared.row_fault.RowKind.{RowKind}
use Rattle.zic_columns.specs.Own.{CsvRecord, csv_records}
use Rattle.zic_columns.specs.Record.{Splitting}
use Rattle.zic_zones.specs.declared.zones.Releases.{Releases}
use Rattle.zic_layouts.specs.declared.layout.Layout.{Layout}
use Rattle.zic_piece_rows.specs.code.Piece.{AreNextRows, AreSoFar, IsSplitBy}
use Rattle.zic_piece_rows.specs.PieceRows.{AreRowsOf, RowsOf, empty_rows}
use Rattle.zic_piece_rows.specs.declared.piece.Piece.{Piece}
use Rattle.zic_piece_rows.proofs.Coming.{come_more, faults_more, no_rows}

-- an option that is none
pub none_by : (o : Option RowKind) → is_some o ≡ false → o ≡ None
none_by None none = refl
none_by (Some kind) none = absurd (cc none)

-- records after a row that ends the run change nothing
rows_more : (layout : Layout) (releases : Releases) (most first : ℕ) (xs ys : List CsvRecord) (rows : RowsOf) (fault : Option RowKind) → rows.fault ≡ fault → IsSome fault
    → AreRowsOf layout releases most first xs rows → AreRowsOf layout releases most first (xs ++ ys) rows
rows_more layout releases most first xs ys rows None e some are = absurd (cc some)
rows_more layout releases most first xs ys rows (Some kind) e some are =
    let come = rw e at are.come in
    record {
      texts = are.texts;
      come = rw e (come_more layout releases most first xs ys are.texts kind come);
      text = are.text;
      count = are.count;
      faults = are.faults ∙ sym (faults_more layout releases most first xs ys are.texts kind come);
    }

module _ (piece : Piece) (releases : Releases) where
  -- before the first rows
  pub far_at_first : (rows : RowsOf) (splitter : Splitting) → rows ≡ empty_rows → splitter.left ≡ csv_records piece.layout.now.delimiter piece.bytes.now → IsSplitBy piece splitter
      → AreSoFar piece releases rows splitter
  far_at_first rows splitter none all split = record {
    split = split;
    done = [];
    parts = sym all;
    rows_are = rw none (no_rows piece.layout.now releases piece.most piece.first);
    counted = λ _. rw none refl;
  }

  module _ (rows : RowsOf) (splitter : Splitting) (far : AreSoFar piece releases rows splitter) where
    -- how many records there are
    pub all_counted : length (csv_records piece.layout.now.delimiter piece.bytes.now) ≡ length far.done + length splitter.left
    all_counted = omega (arith, ap length far.parts, length-append far.done splitter.left)

    -- all records have their rows
    pub all_made : splitter.left ≡ [] → AreRowsOf piece.layout.now releases piece.most piece.first (csv_records piece.layout.now.delimiter piece.bytes.now) rows
    all_made none = rw (far.parts ∙ ap (λ (l : List CsvRecord). far.done ++ l) none ∙ append-nil far.done) far.rows_are

    -- or a row ends the run
    pub ended : IsSome rows.fault → AreRowsOf piece.layout.now releases piece.most piece.first (csv_records piece.layout.now.delimiter piece.bytes.now) rows
    ended some = rw far.parts (rows_more piece.layout.now releases piece.most piece.first far.done _ rows rows.fault refl some far.rows_are)

    -- after the next rows
    pub far_after : (next : RowsOf) (new : Splitting) (count : ℕ) → rows.fault ≡ None → AreNextRows piece releases rows next splitter.left new.left count → IsSplitBy piece new
        → AreSoFar piece releases next new
    far_after next new count none are split = record {
      split = split;
      done = far.done ++ are.next;
      parts = far.parts ∙ ap (λ (l : List CsvRecord). far.done ++ l) are.parts ∙ sym (append_assoc far.done are.next new.left);
      rows_are = are.rows far.done far.rows_are;
      counted = λ goes_on. omega (arith, are.counted goes_on, far.counted none, length-append far.done are.next, are.long);
    }
