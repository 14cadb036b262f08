use Rattle.zic_compile.proofs.SoundFiles.{files_are_sound}
use Rattle.zic_compile.proofs.laws.files_are_sound.Goals as goal

pub returns : goal.returns
returns c = files_are_sound
