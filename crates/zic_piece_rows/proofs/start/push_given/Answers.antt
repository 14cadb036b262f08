use Rattle.std.proofs.Common.{◌∙◌, ◌∷◌, [], ◌++◌, ℕ, List, ap, append_assoc, sym}
use Rattle.zic_columns.specs.Record.{bytes_at, field_text}
use Rattle.zic_columns.specs.declared.fields.Field.{Field}
use Rattle.zic_zones.specs.Zones.{zone_in}
use Rattle.zic_piece_rows.specs.code.Batch.{record_of}
use Rattle.zic_piece_rows.proofs.start.push_given.Goals as goal

pub returns : goal.returns
returns c =
    let piece = c.args.piece.now in
    let bytes = piece.bytes.now in
    let old = c.args.text.now in
    let d = piece.layout.now.delimiter in
    let name = zone_in piece.layout.now.zone (record_of piece c.args.given.now).fields in
    let time = bytes_at bytes c.in-Plain.time in
    record {
      within_bytes = rw c.in-Plain.is at c.requires.split.time_within;
      text = ap (λ (l : List ℕ). l ++ time) c.in_ok-push_zone.ensures ∙ append_assoc old (name ++ d ∷ []) time ∙ ap (λ (l : List ℕ). old ++ l) (append_assoc name (d ∷ []) time)
          ∙ ap (λ (f : Field). old ++ (name ++ d ∷ field_text d bytes f)) (sym c.in-Plain.is);
    }
