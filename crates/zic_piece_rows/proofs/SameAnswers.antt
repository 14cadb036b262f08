-- Two releases that give a record the same answer.
use Rattle.std.proofs.Common.{◌≡◌, ◌∙◌, ℕ, ℤ, Bool, true, false, List, [], ◌∷◌, ◌++◌, Option, Result, Ok, Err, ap, ap₂, refl, sym}
use Rattle.std.proofs.lemmas.Bool.{and_parts}
use Rattle.std.specs.List.{filter, flat_map, list_all}
use Rattle.std.specs.Prelude.{IfOk}
use Rattle.zic_base.specs.State.{Shown}
use Rattle.zic_base.specs.declared.row_fault.RowKind.{RowKind}
use Rattle.zic_columns.specs.declared.fields.Record.{Record}
use Rattle.zic_layouts.specs.RowField.{compared_of, is_compared}
use Rattle.zic_layouts.specs.declared.layout.Layout.{Layout}
use Rattle.zic_layouts.specs.declared.layout.Unit.{Unit}
use Rattle.zic_layouts.specs.declared.row_field.RowField.{RowField}
use Rattle.zic_layouts.specs.declared.row_field.RowField.TheVariants as field
use Rattle.zic_row_text.specs.declared.row_time.RowTime.{RowTime}
use Rattle.zic_piece_rows.specs.LayoutRows.{IsAnswer, IsSeen, empty_fields, row_fields}
use Rattle.zic_piece_rows.specs.code.Answer.{AreSame, IsAnswered, IsOfPiece, IsShownSome, compared_in, fields_in, is_unplaced, answer_or, place_at, seen_by, shown_by, shown_in}
use Rattle.zic_piece_rows.specs.code.Batch.{record_of}
use Rattle.zic_piece_rows.specs.code.Row.{field_at_time, rest_at}
use Rattle.zic_piece_rows.specs.declared.answer.Answer.{Answer}
use Rattle.zic_piece_rows.specs.declared.piece.Piece.{Piece}
use Rattle.zic_piece_rows.proofs.Written.{answer_by}

same_time : (t u : RowTime) → t.second ≡ u.second → t.fraction ≡ u.fraction → t.unit ≡ u.unit → t ≡ u
same_time t u second fraction units =
    ap (λ (s : ℤ). record { second = s; fraction = t.fraction; unit = t.unit }) second ∙ ap (λ (f : ℕ). record { second = u.second; fraction = f; unit = t.unit }) fraction
    ∙ ap (λ (n : Unit). record { second = u.second; fraction = u.fraction; unit = n }) units

module _ (d : ℕ) (time : RowTime) (state : Shown) (place other : List ℕ) where
  -- a field that doesn't say where a local time lies
  unplaced : (f : RowField) → is_unplaced f ≡ true → field_at_time f time state place ≡ field_at_time f time state other
  unplaced field.Local is = refl
  unplaced field.Time is = refl
  unplaced field.Instant is = refl
  unplaced field.Utc is = refl
  unplaced field.Offset is = refl
  unplaced field.Daylight is = refl
  unplaced field.Abbreviation is = refl
  unplaced field.Ambiguous is = absurd (cc is)

  module _ (is_listed : RowField → Bool) where
    one_more : (f : RowField) (fields : List RowField) → is_unplaced f ≡ true
        → flat_map (λ f. d ∷ field_at_time f time state place) (filter is_listed fields) ≡ flat_map (λ f. d ∷ field_at_time f time state other) (filter is_listed fields) → (b : Bool) → is_listed f ≡ b
        → flat_map (λ f. d ∷ field_at_time f time state place) (filter is_listed (f ∷ fields)) ≡ flat_map (λ f. d ∷ field_at_time f time state other) (filter is_listed (f ∷ fields))
    one_more f fields is rest true e = rw e (ap₂ (λ (a b : List ℕ). (d ∷ a) ++ b) (unplaced f is) rest)
    one_more f fields is rest false e = rw e rest

    all_unplaced : (fields : List RowField) → list_all is_unplaced fields ≡ true
        → flat_map (λ f. d ∷ field_at_time f time state place) (filter is_listed fields) ≡ flat_map (λ f. d ∷ field_at_time f time state other) (filter is_listed fields)
    all_unplaced [] all = refl
    all_unplaced (f ∷ fields) all = let (first, others) = and_parts (is_unplaced f) (list_all is_unplaced fields) all in one_more f fields first (all_unplaced fields others) (is_listed f) refl

    -- and all fields
    pub rest_unplaced : (fields : List RowField) → list_all is_unplaced fields ≡ true → rest_at d (filter is_listed fields) time state place ≡ rest_at d (filter is_listed fields) time state other
    rest_unplaced fields all = ap (λ (l : List ℕ). l ++ 10 ∷ []) (all_unplaced fields all)

module _ (piece other : Piece) (of : IsOfPiece piece other) where
  -- what both show is the same
  pub same_seen : list_all is_unplaced (fields_in piece) ≡ true → (answer theirs : Result Answer (Option RowKind)) → IfOk answer (IsShownSome piece) → IfOk theirs (IsShownSome other) → AreSame answer theirs
      → seen_by piece answer ≡ seen_by other theirs
  same_seen all (Ok a) (Ok b) shown theirs alike =
      let d = piece.layout.now.delimiter in
      let listed = compared_in piece in
      let time : a.time ≡ b.time = same_time a.time b.time alike.second alike.fraction (shown.1.time.unit ∙ sym (theirs.1.time.unit ∙ ap (λ l. l.unit) of.layout)) in
      ap₂ (λ (t : RowTime) (s : Shown). rest_at d listed t s (place_at piece a)) time alike.state
      ∙ rest_unplaced d b.time (shown_in b.state) (place_at piece a) (place_at other b) (is_compared piece.layout.now.compared) (fields_in piece) all
      ∙ ap (λ (l : Layout). rest_at l.delimiter (compared_of l.compared (row_fields l)) b.time (shown_in b.state) (place_at other b)) (sym of.layout)
  same_seen all (Err fault) (Err other_fault) shown theirs alike = refl
  same_seen all (Ok a) (Err fault) shown theirs alike = elim alike [ ]
  same_seen all (Err fault) (Ok b) shown theirs alike = elim alike [ ]

  -- what the other answers a record
  other_answer : (given : Record) (number : ℕ) (theirs : Result Answer (Option RowKind)) → IsAnswered other number given theirs → (fields : List RowField) (without text : List ℕ) → text ≡ answer_or other fields without theirs
      → IsAnswer piece.layout.now fields without other.zones.now piece.most number (record_of piece given) text
  other_answer given number theirs is fields without text same =
      let own : IsAnswer other.layout.now fields without other.zones.now other.most number (record_of other given) text = rw same (answer_by other number given theirs is fields without) in
      rw (of.layout, of.bytes, of.most) at own

  -- what of that is compared
  pub other_seen : (given : Record) (number : ℕ) (theirs : Result Answer (Option RowKind)) → IsAnswered other number given theirs
      → IsSeen piece.layout.now other.zones.now piece.most number (record_of piece given) (seen_by other theirs)
  other_seen given number theirs is =
      other_answer given number theirs is (compared_in piece) [] (seen_by other theirs) (ap (λ (l : Layout). answer_or other (compared_of l.compared (row_fields l)) [] theirs) of.layout)

  -- and what stands at the end of a row
  pub other_shown : (given : Record) (number : ℕ) (theirs : Result Answer (Option RowKind)) → IsAnswered other number given theirs
      → IsAnswer piece.layout.now (fields_in piece) (empty_fields piece.layout.now.delimiter (fields_in piece)) other.zones.now piece.most number (record_of piece given) (shown_by other theirs)
  other_shown given number theirs is =
      other_answer given number theirs is (fields_in piece) (empty_fields piece.layout.now.delimiter (fields_in piece)) (shown_by other theirs)
      (ap (λ (l : Layout). answer_or other (row_fields l) (empty_fields l.delimiter (row_fields l)) theirs) of.layout)
