use Rattle.std.proofs.Common.{List, subst, sym, flat_map}
use Rattle.zic_source.specs.Source.{SourceLines}
use Rattle.zic_files.specs.File.{FileImage}
use Rattle.zic_compile.specs.Files.{AreImagesOf}
use Rattle.zic_base.specs.declared.stops.RunStop.{RunStop}
use Rattle.zic_compile.specs.code.Stop.{IsStopOfImages, end_of}
use Rattle.zic_compile.proofs.Joining.{joined_all, task_stop}
use Rattle.zic_compile.proofs.builder.images_by.Goals as goal

pub returns-in_ok-joined-in-Ok-clause-ok : goal.returns-in_ok-joined-in-Ok-clause-ok
returns-in_ok-joined-in-Ok-clause-ok g c =
    let pieces = c.new-pieces in
    let all = joined_all pieces.result c.in-Ok.values.items pieces.ensures.sound.some c.in-Ok.ensures.ok in
    subst (λ (images : List FileImage). AreImagesOf c.args.source.now images) (sym c.in_ok-joined-in-Ok.ensures)
    (subst (λ (source : SourceLines). AreImagesOf source (flat_map (λ (x : List FileImage). x) c.in-Ok.values.items)) pieces.ensures.source all)

pub returns-in-Err-clause-err : goal.returns-in-Err-clause-err
returns-in-Err-clause-err g c =
    let pieces = c.new-pieces in
    subst (λ (stop : RunStop). IsStopOfImages c.args.source.now stop) (sym c.end_of.ensures)
    (subst (λ (source : SourceLines). IsStopOfImages source (end_of c.in-Err.stop)) pieces.ensures.source (task_stop pieces.result c.in-Err.stop c.in-Err.ensures.stop))
