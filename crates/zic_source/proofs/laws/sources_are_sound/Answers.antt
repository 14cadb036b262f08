use Rattle.zic_source.proofs.sound.Sources.{source_is_sound}
use Rattle.zic_source.proofs.laws.sources_are_sound.Goals as goal

pub returns : goal.returns
returns c = source_is_sound
