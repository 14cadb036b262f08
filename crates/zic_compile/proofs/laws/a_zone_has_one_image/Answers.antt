use Rattle.zic_compile.proofs.zone_images.OneImage.{one_image}
use Rattle.zic_compile.proofs.laws.a_zone_has_one_image.Goals as goal

pub returns : goal.returns
returns c = one_image
