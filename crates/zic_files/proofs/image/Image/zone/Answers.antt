use Rattle.std.proofs.Common.{subst}
use Rattle.zic_tzif.specs.Reading.{IsFile}
use Rattle.zic_files.specs.File.{FileImage}
use Rattle.zic_files.proofs.image.Image.zone.Goals as goal

pub returns-clause-read : goal.returns-clause-read
returns-clause-read c = subst (λ (image : FileImage). IsFile image.octets image.content) c.self.view_is c.self.invariant
