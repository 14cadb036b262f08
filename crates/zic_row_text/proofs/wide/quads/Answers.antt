use Rattle.zic_row_text.proofs.Lanes.{quads_are}
use Rattle.zic_row_text.proofs.wide.quads.Goals as goal

pub dot4 : goal.dot4
dot4 c = let quads = quads_are c.args.pairs c.requires.size c.requires.pairs in (quads.fit, tt)

pub returns : goal.returns
returns c = let quads = quads_are c.args.pairs c.requires.size c.requires.pairs in quads.are
