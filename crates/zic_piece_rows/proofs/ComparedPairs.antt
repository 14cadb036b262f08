-- Pairs of which two releases show the same state.
use Rattle.std.proofs.Common.{◌≡◌, ◌≤◌, ◌+◌, ◌∙◌, ℕ, true, List, [], Option, None, Some, Ok, ap, append-nil, refl, subst, sym}
use Rattle.std.specs.List.{list_all}
use Rattle.std.specs.Prelude.{IfSome, IsSome, slice_index_or}
use Rattle.std.proofs.lemmas.Option.{same_Some}
use Rattle.zic_base.specs.State.{Shown}
use Rattle.zic_columns.specs.Own.{CsvRecord}
use Rattle.zic_columns.specs.Record.{pair_record}
use Rattle.zic_columns.specs.declared.fields.Record.{Record}
use Rattle.zic_layouts.specs.RowField.{fields_of}
use Rattle.zic_layouts.specs.declared.layout.Layout.{Layout}
use Rattle.zic_layouts.specs.declared.layout.Style.{Style}
use Rattle.zic_layouts.specs.declared.layout.Style.TheVariants as styles
use Rattle.zic_layouts.specs.declared.layout.TimeFrom.TheVariants as times
use Rattle.zic_layouts.specs.declared.row_field.RowFields.TheVariants as rows
use Rattle.zic_row_text.specs.declared.row_time.RowTime.{RowTime}
use Rattle.zic_piece_rows.specs.LayoutRows.{IsMovedRow, IsWrittenBy, fault_by, row_fields}
use Rattle.zic_piece_rows.specs.PieceRows.{RowsOf}
use Rattle.zic_piece_rows.specs.code.Answer.{AreSame, IsKnown, IsOfPiece, fields_in, is_unplaced}
use Rattle.zic_piece_rows.specs.code.Batch.{IsGiven, blank_time, record_of}
use Rattle.zic_piece_rows.specs.code.Pairs.{AreSameStates, IsOfPairs, IsPairAt, known_pair, pair_in, pair_of}
use Rattle.zic_piece_rows.specs.code.Row.{AreNextBy, by_both, files_of, input_of}
use Rattle.zic_piece_rows.specs.declared.answer.Answer.{Answer}
use Rattle.zic_piece_rows.specs.declared.answer.AnswerState.TheVariants as made
use Rattle.zic_piece_rows.specs.declared.answer.TableAnswer.{TableAnswer}
use Rattle.zic_piece_rows.specs.declared.pairs.PairBatch.{PairBatch}
use Rattle.zic_piece_rows.specs.declared.piece.Piece.{Piece}
use Rattle.zic_piece_rows.proofs.KnownRows.{known_shown, known_sound}
use Rattle.zic_piece_rows.proofs.NextRows.{next_sound}
use Rattle.zic_piece_rows.proofs.MovedRows.{unmoved}
use Rattle.zic_piece_rows.proofs.RowFaults.{unkept}
use Rattle.zic_piece_rows.proofs.SameAnswers.{same_seen}

-- no usual field says where a local time lies
usual_by : (style : Style) → list_all is_unplaced (fields_of (rows.Usual style) times.Count) ≡ true
usual_by styles.Fields = refl
usual_by styles.Iso = refl

usual_unplaced : (layout : Layout) → IsOfPairs layout → list_all is_unplaced (row_fields layout) ≡ true
usual_unplaced layout of = rw (of.fields, of.from) (usual_by of.style)

module _ (piece other : Piece) (given : Record) (number : ℕ) (of : IsOfPiece piece other) (split : IsGiven piece given) (may : number ≤ piece.most) (input : RowTime) (ours theirs : TableAnswer)
    (state : Shown) (all : list_all is_unplaced (fields_in piece) ≡ true) where
  abbrev answer_of : (p : Piece) (known : TableAnswer) → IsKnown p given input known state → Answer
  answer_of p known is = record { file = is.file; input = input_of p.layout.now.from input; time = known.time; state = made.Made state }

  -- nothing is written of a record of which the tables of both have the same
  pub known_unmoved : IsKnown piece given input ours state → IsKnown other given input theirs state → ours.time ≡ theirs.time
      → IsMovedRow piece.layout.now piece.zones.now other.zones.now piece.most number (record_of piece given) []
  known_unmoved is are time =
      let split_other : IsGiven other given = rw (of.layout, of.bytes) split in
      let may_other : number ≤ other.most = rw of.most may in
      let answer = answer_of piece ours is in
      let answers = answer_of other theirs are in
      let shown = known_shown piece given input ours state is answer is.named refl refl refl in
      let shows = known_shown other given input theirs state are answers are.named refl refl refl in
      let none = known_sound piece given input ours state is number split may in
      let sound = known_sound other given input theirs state are number split_other may_other in
      let alike : AreSame (Ok answer) (Ok answers) = record { second = ap (λ (t : RowTime). t.second) time; fraction = ap (λ (t : RowTime). t.fraction) time; state = refl } in
      let unkept_here = unkept piece given is.read.count is.read.says in
      let unkept_there = unkept other given are.read.count are.read.says in
      let same = same_seen piece other of all (Ok answer) (Ok answers) (given, shown) (given, shows) alike in
      unmoved piece other of number given (Ok answer) (Ok answers) (none, unkept_here, shown) (sound, unkept_there, shows) same

module _ (piece : Piece) (number : ℕ) (batch : PairBatch) (place : ℕ) where
  abbrev row_record : CsvRecord
  row_record = pair_of piece (pair_in batch.pairs.places place)

  -- nothing is written of a pair of which both releases show the same state
  pair_unmoved : (other : Option Piece) → IsSome other → IfSome other (IsOfPiece piece) → IsPairAt piece other number batch place → AreSameStates batch.shown batch.others place
      → IsWrittenBy piece.layout.now (by_both piece (files_of other)) piece.most number row_record []
  pair_unmoved None some of at same = absurd (cc some)
  pair_unmoved (Some other) some of at same =
      let given = pair_record (pair_in batch.pairs.places place) in
      let time = slice_index_or batch.pairs.times place blank_time in
      let ours = known_pair (slice_index_or batch.shown.files place 0) time (slice_index_or batch.shown.numbers place 0) in
      let theirs = known_pair (slice_index_or batch.others.files place 0) time (slice_index_or batch.others.numbers place 0) in
      let (state, got, known) = at.state same.known in
      let (shows, has, knows) = at.others same.other in
      let alike : shows ≡ state = same_Some shows state (sym has ∙ sym same.same ∙ got) in
      record {
        row = [];
        is_row = known_unmoved piece other given number of at.pair.split (at.may same.known) time ours theirs state (usual_unplaced piece.layout.now at.layout) known
            (subst (λ (s : Shown). IsKnown other given time theirs s) alike knows) refl;
        is = rw at.layout.line_end refl;
      }

  -- it is passed
  pub pair_passed : (other : Option Piece) → IsSome other → IfSome other (IsOfPiece piece) → IsPairAt piece other number batch place → AreSameStates batch.shown batch.others place → (old new : RowsOf)
      → new ≡ record old { count = old.count + 1 } → AreNextBy piece.layout.now (by_both piece (files_of other)) piece.most number row_record old new
  pair_passed other some of at same old new passed =
      let releases = by_both piece (files_of other) in
      let given = pair_record (pair_in batch.pairs.places place) in
      let time = slice_index_or batch.pairs.times place blank_time in
      let ours = known_pair (slice_index_or batch.shown.files place 0) time (slice_index_or batch.shown.numbers place 0) in
      let (state, got, known) = at.state same.known in
      let none : fault_by piece.layout.now piece.zones.now piece.most number row_record ≡ None = known_sound piece given time ours state known number at.pair.split (at.may same.known) in
      let written = pair_unmoved other some of at same in
      next_sound piece.layout.now releases piece.most number row_record old new none [] written
      (passed ∙ ap (λ (l : List ℕ). record { text = l; count = old.count + 1; fault = old.fault; faults = old.faults }) (sym (append-nil old.text)))
