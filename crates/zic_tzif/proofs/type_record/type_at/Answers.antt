use Rattle.std.proofs.Common.{◌≡◌, ◌+◌, ◌-◌, ◌*◌, take, drop, Some, sym, ap, ◌∙◌, arith}
use Rattle.std.proofs.lemmas.Option.{slice_get-map}
use Rattle.std.specs.Option.{option_map}
use Rattle.zic_tzif.specs.Block.{pieces, type_in}
use Rattle.zic_tzif.proofs.ReadPieces.{piece_at}
use Rattle.zic_tzif.proofs.type_record.type_at.Goals as goal

pub returns : goal.returns
returns c =
    let xs = c.args.records.now in
    let six : c.args.number * 6 + 6 - c.args.number * 6 ≡ 6 = omega arith in
    slice_get-map type_in (pieces 6 c.args.count xs) c.args.number
    ∙ ap (option_map type_in) (piece_at 6 c.args.count c.args.number xs c.requires.inside)
    ∙ ap Some (sym (c.local_type.ensures ∙ ap (λ n. type_in (take n (drop (c.args.number * 6) xs))) six))
