use Rattle.zic_rules.proofs.Limits.{shows_within_limits}
use Rattle.zic_rules.proofs.laws.a_sound_zone_shows_within_limits.Goals as goal

pub returns : goal.returns
returns c = shows_within_limits
