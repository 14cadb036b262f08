-- The text of a row, by what it shows.
use Rattle.std.proofs.Common.{◌≡◌, ◌∙◌, ℕ, ℤ, pos, negsuc, ◌+ℤ◌, ◌*ℤ◌, List, [], ◌∷◌, ◌++◌, Option, Some, ap, ap₂, arith, refl, subst}
use Rattle.std.proofs.lemmas.Int.{ints}
use Rattle.std.specs.Fmt.{signed_decimal}
use Rattle.std.specs.List.{flat_map}
use Rattle.std.specs.Prelude.{slice_get}
use Rattle.zic_base.specs.State.{Shown}
use Rattle.zic_columns.specs.declared.fields.Record.{Record}
use Rattle.zic_files.specs.File.{File}
use Rattle.zic_layouts.specs.declared.layout.TimeFrom.{TimeFrom}
use Rattle.zic_layouts.specs.declared.layout.TimeFrom.TheVariants as from
use Rattle.zic_layouts.specs.declared.layout.Unit.{Unit}
use Rattle.zic_layouts.specs.declared.layout.Unit.TheVariants as unit
use Rattle.zic_layouts.specs.declared.row_field.RowField.{RowField}
use Rattle.zic_layouts.specs.declared.row_field.RowField.TheVariants as field
use Rattle.zic_row_text.specs.Count.{fraction_of, second_of, units_of_second}
use Rattle.zic_row_text.specs.Fields.{field_text, fields_text, time_text}
use Rattle.zic_row_text.specs.Row.{iso_offset_text}
use Rattle.zic_row_text.specs.declared.row_time.RowTime.{RowTime}
use Rattle.zic_zones.specs.Zones.{AnswersAt, zone_in}
use Rattle.zic_piece_rows.specs.LayoutRows.{IsAnswerBy, IsTextBy, beginning, field_by, fields_by, first_field, place_by}
use Rattle.zic_piece_rows.specs.code.Answer.{IsMeantBy, IsShownRow, answer_at, first_at, following_in, place_at, shown_in}
use Rattle.zic_piece_rows.specs.code.Batch.{IsTimeOf, input_in, record_of}
use Rattle.zic_piece_rows.specs.code.Row.{clock_at, field_at_time, place_in, rest_at, time_count}
use Rattle.zic_piece_rows.specs.declared.piece.Piece.{Piece}
use Rattle.zic_piece_rows.specs.declared.answer.Answer.{Answer}
use Rattle.zic_piece_rows.specs.declared.start.Input.{Input}
use Rattle.zic_piece_rows.specs.declared.search.RowQuery.{RowQuery}
use Rattle.zic_piece_rows.proofs.MadeTexts.{answer_made, file_got, file_made, text_made}

-- a count is its whole second and what it lies after that
counted_back : (u : Unit) (count : ℤ) → (second_of u count *ℤ pos (units_of_second u)) +ℤ pos (fraction_of u count) ≡ count
counted_back unit.Second (pos a) = omega (arith, ints)
counted_back unit.Second (negsuc a) = omega (arith, ints)
counted_back unit.Millisecond (pos a) = omega (arith, ints)
counted_back unit.Millisecond (negsuc a) = omega (arith, ints)
counted_back unit.Microsecond (pos a) = omega (arith, ints)
counted_back unit.Microsecond (negsuc a) = omega (arith, ints)
counted_back unit.Nanosecond (pos a) = omega (arith, ints)
counted_back unit.Nanosecond (negsuc a) = omega (arith, ints)

module _ (u : Unit) (count : ℤ) (time : RowTime) (is : IsTimeOf u count time) where
  -- the count of its time
  pub count_back : time_count time ≡ count
  count_back = rw (is.second, is.fraction, is.unit) (counted_back u count)

  clock_timed : (offset : ℤ) → clock_at time offset ≡ time_text u count offset
  clock_timed offset = rw (is.unit, is.second, is.fraction) refl

  field_timed : (f : RowField) (state : Shown) (place : List ℕ) → field_at_time f time state place ≡ field_text f u count state place
  field_timed field.Local state place = clock_timed state.offset
  field_timed field.Time state place = ap (λ (l : List ℕ). l ++ iso_offset_text state.offset) (clock_timed state.offset)
  field_timed field.Instant state place = ap signed_decimal count_back
  field_timed field.Utc state place = ap (λ (l : List ℕ). l ++ 90 ∷ []) (clock_timed (pos 0))
  field_timed field.Offset state place = refl
  field_timed field.Daylight state place = refl
  field_timed field.Abbreviation state place = refl
  field_timed field.Ambiguous state place = refl

  fields_timed : (d : ℕ) (fields : List RowField) (state : Shown) (place : List ℕ)
      → flat_map (λ f. d ∷ field_at_time f time state place) fields ≡ flat_map (λ f. d ∷ field_text f u count state place) fields
  fields_timed d [] state place = refl
  fields_timed d (f ∷ fields) state place = ap₂ (λ (a b : List ℕ). (d ∷ a) ++ b) (field_timed f state place) (fields_timed d fields state place)

  -- what follows in a row, by a count and by its time
  pub rest_timed : (d : ℕ) (fields : List RowField) (state : Shown) (place : List ℕ) → rest_at d fields time state place ≡ fields_text d fields u count state place
  rest_timed d fields state place = ap (λ (l : List ℕ). l ++ 10 ∷ []) (fields_timed d fields state place)

-- where a local time lies, by what a row has of it
pub place_meant : (f : TimeFrom) (u : Unit) (found : Option File) (file : File) (input : Input) (count : ℤ) → found ≡ Some file → IsMeantBy f input count → place_in f u found input ≡ place_by f u file count
place_meant from.Count u found file input count got meant = refl
place_meant (from.Text form) u found file input count got meant = refl
place_meant (from.Local choice) u found file input count got meant = rw (got, meant) refl

module _ (piece : Piece) (given : Record) (answer : Answer) (is : IsShownRow piece given answer) where
  abbrev query_of : RowQuery
  query_of = record { file = answer.file; counts = is.counts }

  answers_at : AnswersAt piece.zones.now answer.file (second_of piece.layout.now.unit is.counts.count) (shown_in answer.state)
  answers_at = subst (λ (t : ℤ). AnswersAt piece.zones.now answer.file t (shown_in answer.state)) is.time.second is.answers

  -- where its local time lies
  place_is : place_at piece answer ≡ place_by piece.layout.now.from piece.layout.now.unit (file_made piece given query_of (shown_in answer.state) is.query answers_at) is.counts.input
  place_is =
      place_meant piece.layout.now.from piece.layout.now.unit (slice_get piece.zones.now answer.file) (file_made piece given query_of (shown_in answer.state) is.query answers_at) answer.input is.counts.input
      (file_got piece given query_of (shown_in answer.state) is.query answers_at) is.meant

  -- what it has after its beginning
  fields_are : (fields : List RowField) → answer_at piece fields answer
      ≡ fields_by piece.layout.now fields (file_made piece given query_of (shown_in answer.state) is.query answers_at) is.counts.input is.counts.count (shown_in answer.state)
  fields_are fields =
      let layout = piece.layout.now in
      let state = shown_in answer.state in
      rest_timed layout.unit is.counts.count answer.time is.time layout.delimiter fields state (place_at piece answer)
      ∙ ap (λ (p : List ℕ). fields_text layout.delimiter fields layout.unit is.counts.count state p) place_is

  -- the field that it has first
  first_is : first_at piece answer
      ≡ field_by piece.layout.now (first_field piece.layout.now) (file_made piece given query_of (shown_in answer.state) is.query answers_at) is.counts.input is.counts.count (shown_in answer.state)
  first_is =
      let layout = piece.layout.now in
      let field = first_field layout in
      let state = shown_in answer.state in
      field_timed layout.unit is.counts.count answer.time is.time field state (place_at piece answer) ∙ ap (λ (p : List ℕ). field_text field layout.unit is.counts.count state p) place_is

  -- it has a text
  pub shown_text : (row : List ℕ) × IsTextBy piece.layout.now piece.zones.now (record_of piece given) row
  shown_text = (_, text_made piece given query_of (shown_in answer.state) is.query answers_at)

  -- what it answers as some fields
  pub answer_text : (fields : List RowField) → IsAnswerBy piece.layout.now fields piece.zones.now (record_of piece given) (answer_at piece fields answer)
  answer_text fields = rw (fields_are fields) (answer_made piece given query_of (shown_in answer.state) is.query answers_at fields)

  -- its text, as it was made
  pub row_made : (text : List ℕ) → text
      ≡ beginning piece.layout.now.start piece.layout.now.delimiter piece.layout.now.time (record_of piece given).own (zone_in piece.layout.now.zone (record_of piece given).fields)
      (input_in piece given answer.input) (first_at piece answer)
      ++ answer_at piece (following_in piece) answer
      → IsTextBy piece.layout.now piece.zones.now (record_of piece given) text
  row_made text made = rw (made, is.says, first_is, fields_are (following_in piece)) (text_made piece given query_of (shown_in answer.state) is.query answers_at)
