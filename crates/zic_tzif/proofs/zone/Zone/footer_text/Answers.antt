use Rattle.std.proofs.Common.{rules}
use Rattle.zic_tzif.proofs.zone.Zone.footer_text.Goals as goal

pub returns : goal.returns
returns c = search rules
