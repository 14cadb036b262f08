use Rattle.std.proofs.Common.{◌∙◌, ◌++◌, FitsSigned, ℕ, List, ap, append-nil, refl, rules, to_z-of_z}
use Rattle.std.specs.Int.{w128}
use Rattle.zic_zones.specs.Zones.{zone_in}
use Rattle.zic_piece_rows.specs.code.Batch.{record_of}
use Rattle.zic_piece_rows.specs.LayoutRows.{input_text}
use Rattle.zic_piece_rows.proofs.Columns.{number_within}
use Rattle.zic_piece_rows.proofs.RowFaults.{name_is, start_pushed}
use Rattle.zic_piece_rows.proofs.start.push_fields.Goals as goal

pub name-requires : goal.name-requires
name-requires c =
    let piece = c.args.piece.now in
    rw c.requires.file at (number_within piece.zones.now (zone_in piece.layout.now.zone (record_of piece c.args.given.now).fields))

pub returns-in_ok-push_input-in-Count-clause-text : goal.returns-in_ok-push_input-in-Count-clause-text
returns-in_ok-push_input-in-Count-clause-text c =
    let piece = c.args.piece.now in
    let layout = piece.layout.now in
    let old = c.args.text.now in
    let name = zone_in layout.zone (record_of piece c.args.given.now).fields in
    let count : FitsSigned w128 c.in-Count.count = search rules in
    let called = name_is piece.zones.now name c.args.file c.name.result.now c.requires.file c.name.ensures in
    append-nil c.push_input.new.text
    ∙ start_pushed layout.delimiter old name (input_text layout.from layout.unit c.in-Count.count) c.push.new.self c.push_input.new.text
    (c.in_ok-push-in-Count.ensures ∙ ap (λ (l : List ℕ). old ++ l) called) (rw (to_z-of_z count) at c.in_ok-push_input-in-Count.ensures)
    ∙ (rw c.in-Count.is refl)
