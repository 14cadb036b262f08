use Rattle.std.proofs.Common.{◌≡◌, ◌∙◌, ◌-◌, ◌++◌, ◌∷◌, [], ℕ, List, ap, ap₂, arith, drop, length, replicate, sym, take}
use Rattle.std.proofs.lemmas.List.{length-drop}
use Rattle.std.proofs.lemmas.Result.{on_ok_weaker}
use Rattle.zic_columns.specs.Record.{bytes_at}
use Rattle.zic_layouts.specs.declared.row_field.RowField.{RowField}
use Rattle.zic_piece_rows.specs.LayoutRows.{emptied, or_quotes, row_fields}
use Rattle.zic_piece_rows.specs.code.Batch.{record_of}
use Rattle.zic_piece_rows.proofs.Around.{emptied_around, emptied_row}
use Rattle.zic_piece_rows.proofs.RowFields.{empties, few_fields}
use Rattle.zic_piece_rows.proofs.faulty.push_emptied.Goals as goal

pub returns : goal.returns
returns c =
    let piece = c.args.piece.now in
    let layout = piece.layout.now in
    let bytes = piece.bytes.now in
    let d = layout.delimiter in
    let around = c.around_time-around in
    let byte = c.byte-empty.result in
    let n = length c.fields-count.result.now - 1 in
    let k = length (drop 1 (row_fields layout)) in
    let within = few_fields (row_fields layout) c.fields-count.ensures.few in
    let less : k ≡ length (row_fields layout) - 1 = length-drop 1 (row_fields layout) in
    let same : n ≡ k = ap (λ (l : List RowField). length l - 1) c.fields-count.ensures.fields ∙ sym less in
    let none : take n (replicate 8 byte) ≡ replicate k d = empties byte d n k c.byte-empty.ensures.byte same (omega (arith, less, within)) in
    let after = bytes_at bytes around.result.after in
    let whole = emptied d (record_of piece c.args.given.now) layout.time in
    let parts : or_quotes whole ≡ c.or_quotes.result.now ++ after =
    ap or_quotes (emptied_around piece c.args.given.now c.requires around.result around.ensures ∙ ap₂ (λ (a b : List ℕ). a ++ b) (sym c.of.ensures) (sym c.of-after.ensures))
    ∙ sym c.or_quotes.ensures ∙ ap (λ (l : List ℕ). c.or_quotes.result.now ++ l) c.of-after.ensures in
    on_ok_weaker c.push_own.result
    (λ is. emptied_row c.args.text.now.items c.or_quotes.result.now after (replicate k d) (10 ∷ []) _ c.extend_from_slice.new.self.items c.push_own.new.text.items
    c.in_ok-extend_from_slice.ensures.items
    (is ∙ ap₂ (λ (a e : List ℕ). c.extend_from_slice.new.self.items ++ ((a ++ e) ++ 10 ∷ [])) c.of-after.ensures none)
    parts)
    c.push_own.ensures
