use Rattle.std.proofs.Common.{◌≡◌, ◌∙◌, ◌∷◌, [], ℕ, List, ap, ap₂, length, refl, replicate}
use Rattle.std.proofs.lemmas.Result.{IfOk-weaker}
use Rattle.csv.specs.Writing.{default_writer, row_text, with_delimiter}
use Rattle.zic_layouts.specs.declared.row_field.RowField.{RowField}
use Rattle.zic_zones.specs.Zones.{field_at, zone_in}
use Rattle.zic_piece_rows.specs.LayoutRows.{row_fields}
use Rattle.zic_piece_rows.specs.code.Batch.{record_of}
use Rattle.zic_piece_rows.proofs.RowFields.{few_fields, padded}
use Rattle.zic_piece_rows.proofs.faulty.timeless_row.Goals as goal

pub returns : goal.returns
returns c =
    let piece = c.args.piece.now in
    let layout = piece.layout.now in
    let d = layout.delimiter in
    let row_record = record_of piece c.args.given.now in
    let name : c.as_slice.result.now ≡ zone_in layout.zone row_record.fields = c.as_slice.ensures.value ∙ c.in_ok-name.ensures in
    let time : c.as_slice-2.result.now ≡ field_at row_record.fields layout.time = c.as_slice-2.ensures.value ∙ c.in_ok-field.ensures in
    let n = length (row_fields layout) in
    let W : List (List ℕ) → List ℕ = λ l. row_text (with_delimiter default_writer d) l in
    let count : length c.fields-count.result.now ≡ n = ap (λ (l : List RowField). length l) c.fields-count.ensures.fields in
    let written = rw (c.byte.ensures.byte, count) at c.csv_row.ensures in
    IfOk-weaker c.csv_row.result _ _
    (λ row is. is ∙ ap W (padded (λ f. f.now) c.as_slice.result c.as_slice-2.result _ n (few_fields (row_fields layout) c.fields-count.ensures.few) refl ∙ ap₂ (λ (a b : List ℕ). a ∷ b ∷ replicate n []) name time))
    written
