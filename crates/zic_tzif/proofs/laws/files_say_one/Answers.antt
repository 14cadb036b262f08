use Rattle.std.proofs.Common.{sym, ◌∙◌}
use Rattle.zic_tzif.proofs.laws.files_say_one.Goals as goal

pub returns : goal.returns
returns c = λ octets a b one other. one.says ∙ sym other.says
