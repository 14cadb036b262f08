use Rattle.std.proofs.Common.{◌<◌, ℕ, List, None, length, sym, ◌∙◌, ap, arith}
use Rattle.std.proofs.lemmas.List.{length-map}
use Rattle.std.proofs.lemmas.Option.{slice_get-get_or, slice_get-map}
use Rattle.std.specs.Option.{option_map}
use Rattle.std.specs.List.{slice_get}
use Rattle.zic_columns.specs.code.Range.{piece_at}
use Rattle.zic_columns.proofs.rounds.Round.piece.Goals as goal

pub returns : goal.returns
returns c =
    let ranges = c.self.inside.ranges.now in
    let piece = piece_at c.self.inside.bytes.now in
    let within : c.args.index < length ranges = omega (arith, c.requires, ap length c.self.view_is, length-map ranges piece) in
    ap (λ (pieces : List (List ℕ)). slice_get pieces c.args.index) (sym c.self.view_is) ∙ slice_get-map piece ranges c.args.index
    ∙ ap (option_map piece) (slice_get-get_or ranges c.args.index (record { start = 0; end = 0; lines_before = None }) within)
