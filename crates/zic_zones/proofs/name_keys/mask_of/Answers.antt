use Rattle.zic_zones.proofs.Keys.{mask_part}
use Rattle.zic_zones.proofs.name_keys.mask_of.Goals as goal

pub returns : goal.returns
returns c = mask_part 32 c.args.len 255 0 c.requires
