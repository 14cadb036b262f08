use Rattle.zic_lines.proofs.Seconds.{round_to_nearest}
use Rattle.zic_lines.proofs.word_laws.times_round_to_nearest.Goals as goal

pub returns : goal.returns
returns c = round_to_nearest
