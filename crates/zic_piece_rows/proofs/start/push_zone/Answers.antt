use Rattle.std.proofs.Common.{◌∙◌, ◌∷◌, [], ◌++◌, ℕ, List, ap}
use Rattle.zic_zones.specs.Zones.{zone_in}
use Rattle.zic_piece_rows.specs.code.Batch.{record_of}
use Rattle.zic_piece_rows.proofs.Columns.{number_within}
use Rattle.zic_piece_rows.proofs.RowFaults.{name_is, start_pushed}
use Rattle.zic_piece_rows.proofs.start.push_zone.Goals as goal

pub name-requires : goal.name-requires
name-requires c =
    let piece = c.args.piece.now in
    rw c.requires.file at (number_within piece.zones.now (zone_in piece.layout.now.zone (record_of piece c.args.given.now).fields))

pub returns : goal.returns
returns c =
    let piece = c.args.piece.now in
    let name = zone_in piece.layout.now.zone (record_of piece c.args.given.now).fields in
    let old = c.args.text.now in
    let called = name_is piece.zones.now name c.args.file c.name.result.now c.requires.file c.name.ensures in
    start_pushed piece.layout.now.delimiter old name [] c.push.new.self c.push-2.new.self (c.in_ok-push.ensures ∙ ap (λ (l : List ℕ). old ++ l) called)
    (c.in_ok-push-2.ensures ∙ ap (λ (d : ℕ). c.push.new.self ++ d ∷ []) c.byte-delimiter.ensures.byte)
