use Rattle.std.proofs.Common.{◌∙◌, take, ap, sym}
use Rattle.std.specs.List.{take-map}
use Rattle.zic_columns.specs.code.Range.{piece_at}
use Rattle.zic_columns.proofs.rounds.Round.front.Goals as goal

pub returns : goal.returns
returns c =
    let ranges = c.self.inside.ranges.now in
    let piece = piece_at c.self.inside.bytes.now in
    sym (take-map piece c.args.count ranges) ∙ ap (take c.args.count) c.self.view_is
