use Rattle.std.proofs.Common.{◌∙◌, ap}
use Rattle.zic_zones.specs.Zones.{number_of}
use Rattle.zic_piece_rows.proofs.answers.named_file.Goals as goal

pub returns-in-Name : goal.returns-in-Name
returns-in-Name c = rw c.in-Name.is (c.find.ensures ∙ ap (number_of c.args.piece.now.zones.now) c.as_bytes.ensures.value)
