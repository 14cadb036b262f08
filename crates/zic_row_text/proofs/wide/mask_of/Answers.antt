use Rattle.zic_row_text.proofs.Lanes.{mask_part}
use Rattle.zic_row_text.proofs.wide.mask_of.Goals as goal

pub returns : goal.returns
returns c = mask_part 16 c.args.cleared 0 255 c.requires
