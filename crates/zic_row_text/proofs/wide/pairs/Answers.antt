use Rattle.zic_row_text.proofs.Lanes.{pairs_are}
use Rattle.zic_row_text.proofs.wide.pairs.Goals as goal

pub returns : goal.returns
returns c = pairs_are 8 c.args.digits c.requires.size c.requires.digits
