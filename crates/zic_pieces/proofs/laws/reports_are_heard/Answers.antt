use Rattle.zic_pieces.proofs.Heard.{reports_are_heard}
use Rattle.zic_pieces.proofs.laws.reports_are_heard.Goals as goal

pub returns : goal.returns
returns c = reports_are_heard
