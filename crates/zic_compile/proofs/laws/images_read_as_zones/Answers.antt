use Rattle.zic_compile.proofs.zone_images.Files.{image_reads}
use Rattle.zic_compile.proofs.laws.images_read_as_zones.Goals as goal

pub returns : goal.returns
returns c = image_reads
