use Rattle.zic_compile.specs.code.Zones.{AreImagesWithin}
use Rattle.zic_compile.proofs.compiler.images_within.Given as goal

abbrev pub invariant-loop-zone : goal.invariant-loop-zone
invariant-loop-zone l = AreImagesWithin l.source l.first l.zone l.images.items
