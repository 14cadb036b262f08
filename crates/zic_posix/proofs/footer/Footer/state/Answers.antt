use Rattle.std.proofs.Common.{rules}
use Rattle.zic_posix.proofs.footer.Footer.state.Goals as goal

pub returns : goal.returns
returns c = search rules
