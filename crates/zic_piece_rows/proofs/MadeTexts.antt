-- The text of a record's row, and what files answer the record, by what they show.
use Rattle.std.proofs.Common.{◌≡◌, ℕ, List, ◌++◌, Some, refl, sym, ap, subst}
use Rattle.std.specs.Prelude.{Contains, slice_get}
use Rattle.std.proofs.lemmas.List.Elements.{Contains-get_or}
use Rattle.std.proofs.lemmas.Option.{get_or_from_slice_get, slice_get_within}
use Rattle.zic_base.specs.State.{Shown}
use Rattle.zic_columns.specs.declared.fields.Record.{Record}
use Rattle.zic_files.specs.File.{File}
use Rattle.zic_layouts.specs.declared.row_field.RowField.{RowField}
use Rattle.zic_row_text.specs.Count.{second_of}
use Rattle.zic_zones.specs.Zones.{AnswersAt, zone_in}
use Rattle.zic_piece_rows.specs.LayoutRows.{HasAnswer, IsAnswerBy, IsTextBy, field_by, fields_by, first_field, following_fields, start_text}
use Rattle.zic_piece_rows.specs.code.Answer.{IsRowQuery}
use Rattle.zic_piece_rows.specs.code.Batch.{record_of}
use Rattle.zic_piece_rows.specs.declared.piece.Piece.{Piece}
use Rattle.zic_piece_rows.specs.declared.search.RowQuery.{RowQuery}
use Rattle.zic_piece_rows.proofs.RowFaults.{found}

-- the file of a number is one of all
pub among : (files : List File) (i : ℕ) (file : File) → slice_get files i ≡ Some file → Contains files file
among files i file e = subst (λ (f : File). Contains files f) (get_or_from_slice_get files i file file e) (Contains-get_or files i file (slice_get_within files i file e))

module _ (piece : Piece) (given : Record) (query : RowQuery) (state : Shown) (is : IsRowQuery piece given query)
    (answers : AnswersAt piece.zones.now query.file (second_of piece.layout.now.unit query.counts.count) state) where
  -- the file of its zone
  pub file_made : File
  file_made = (found piece.zones.now (zone_in piece.layout.now.zone (record_of piece given).fields) query.file is.file).0

  pub file_got : slice_get piece.zones.now query.file ≡ Some file_made
  unfolding file_made
  file_got = (found piece.zones.now (zone_in piece.layout.now.zone (record_of piece given).fields) query.file is.file).1

  -- the files answer the record
  has_made : HasAnswer piece.layout.now piece.zones.now (record_of piece given)
  unfolding file_made
  has_made =
      let (file, got, called, known) = found piece.zones.now (zone_in piece.layout.now.zone (record_of piece given).fields) query.file is.file in
      record {
        file = file_made;
        among = among piece.zones.now query.file file got;
        named = called;
        input = query.counts.input;
        says = is.counts.input_is;
        count = query.counts.count;
        means = rw (is.file, got, is.counts.input_is) at is.counts.time;
        state = state;
        answers = rw got at answers;
      }

  -- the text of its row, as it was made
  pub text_made : IsTextBy piece.layout.now piece.zones.now (record_of piece given)
      (start_text piece.layout.now (record_of piece given).own (zone_in piece.layout.now.zone (record_of piece given).fields) query.counts.input
      (field_by piece.layout.now (first_field piece.layout.now) file_made query.counts.input query.counts.count state)
      ++ fields_by piece.layout.now (following_fields piece.layout.now) file_made query.counts.input query.counts.count state)
  unfolding has_made
  text_made =
      let layout = piece.layout.now in
      let field = field_by layout (first_field layout) file_made query.counts.input query.counts.count state in
      let rest = fields_by layout (following_fields layout) file_made query.counts.input query.counts.count state in
      record {
        has = has_made;
        is = ap (λ (n : List ℕ). start_text layout (record_of piece given).own n query.counts.input field ++ rest) (sym has_made.named);
      }

  -- what they answer, as it was made
  pub answer_made : (fields : List RowField) → IsAnswerBy piece.layout.now fields piece.zones.now (record_of piece given)
      (fields_by piece.layout.now fields file_made query.counts.input query.counts.count state)
  unfolding has_made
  answer_made fields = record { has = has_made; is = refl }
