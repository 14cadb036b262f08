use Rattle.std.proofs.Common.{subst}
use Rattle.std.specs.Prelude.{IfOk}
use Rattle.zic_base.specs.Fault.{fault_of}
use Rattle.zic_base.specs.Memory.{IfRefusal, OnOutOfMemory}
use Rattle.zic_source.specs.Source.{SourceLines}
use Rattle.zic_compile.specs.code.Zones.{AreImagesWithin, IsFaultWithin, NeedsMemoryWithin}
use Rattle.zic_compile.proofs.compiler.images_of.Goals as goal

pub returns-clause-ok : goal.returns-clause-ok
returns-clause-ok c =
    subst (λ (s : SourceLines). IfOk c.images_within.result (λ images. AreImagesWithin s c.args.first c.args.end images.items)) c.new-listed.ensures c.images_within.ensures.ok

pub returns-clause-err : goal.returns-clause-err
returns-clause-err c =
    subst (λ (s : SourceLines). IfRefusal fault_of c.images_within.result (IsFaultWithin s c.args.first c.args.end)) c.new-listed.ensures c.images_within.ensures.err

pub returns-clause-memory : goal.returns-clause-memory
returns-clause-memory c =
    subst (λ (s : SourceLines). OnOutOfMemory fault_of c.images_within.result (NeedsMemoryWithin s c.args.first c.args.end)) c.new-listed.ensures c.images_within.ensures.memory
