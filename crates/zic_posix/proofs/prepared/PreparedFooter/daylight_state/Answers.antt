use Rattle.std.proofs.Common.{rules}
use Rattle.zic_posix.proofs.prepared.PreparedFooter.daylight_state.Goals as goal

pub returns : goal.returns
returns c = search rules
