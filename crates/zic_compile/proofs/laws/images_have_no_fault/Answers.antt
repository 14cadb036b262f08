use Rattle.zic_compile.proofs.zone_images.OneImage.{images_without_fault}
use Rattle.zic_compile.proofs.laws.images_have_no_fault.Goals as goal

pub returns : goal.returns
returns c = images_without_fault
