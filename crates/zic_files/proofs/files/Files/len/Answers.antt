use Rattle.std.proofs.Common.{subst}
use Rattle.zic_files.specs.Sound.{AreSoundFiles}
use Rattle.zic_files.proofs.files.Files.len.Goals as goal

pub returns-clause-sound : goal.returns-clause-sound
returns-clause-sound c = subst AreSoundFiles c.self.view_is c.self.invariant.sound
