use Rattle.std.proofs.Common.{rules}
use Rattle.zic_tzif.proofs.content.Table.footer_text.Goals as goal

pub returns : goal.returns
returns c = search rules
