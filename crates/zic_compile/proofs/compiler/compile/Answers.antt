use Rattle.std.proofs.Common.{rules}
use Rattle.zic_base.specs.Fault.{fault_of}
use Rattle.zic_base.proofs.MemoryLemmas.{on_want}
use Rattle.zic_compile.specs.Files.{CompileNeedsMemory}
use Rattle.zic_compile.proofs.Zones.{all_images, memory_after}
use Rattle.zic_compile.proofs.compiler.compile.Goals as goal

pub files_of-requires : goal.files_of-requires
files_of-requires c = all_images c.args.source.now c.zones.result c.in_ok-images.images.items c.zones.ensures.count c.in_ok-images.ensures.ok

pub returns-in_err-files-clause-memory : goal.returns-in_err-files-clause-memory
returns-in_err-files-clause-memory c =
    let images = c.in_ok-images.images.items in
    let are = all_images c.args.source.now c.zones.result images c.zones.ensures.count c.in_ok-images.ensures.ok in
    on_want fault_of c.from_residual-in_err-files.result (CompileNeedsMemory c.args.source.now) (memory_after c.args.source.now images are c.in_err-files.ensures.memory)

pub returns-clause-ok : goal.returns-clause-ok
returns-clause-ok c = search rules

pub returns-clause-err : goal.returns-clause-err
returns-clause-err c = search rules

pub returns-clause-memory : goal.returns-clause-memory
returns-clause-memory c = search rules
