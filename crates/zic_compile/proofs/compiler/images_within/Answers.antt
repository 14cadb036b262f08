use Rattle.std.proofs.Common.{arith, rules}
use Rattle.std.proofs.lemmas.Result.{err_from_is_err_and}
use Rattle.zic_base.specs.Fault.{fault_of}
use Rattle.zic_base.proofs.MemoryLemmas.{on_want}
use Rattle.zic_rules.specs.Timeline.{zone_of}
use Rattle.zic_compile.specs.Image.{ImageNeedsMemory}
use Rattle.zic_compile.specs.Files.{IsReadImage}
use Rattle.zic_compile.specs.code.Zones.{NeedsMemoryWithin}
use Rattle.zic_compile.proofs.Zones.{none_within, one_more, fault_within, wants_within, if_none_weaker, wanted}
use Rattle.zic_compile.proofs.compiler.images_within.Goals as goal

pub returns-in_err-image-clause-err : goal.returns-in_err-image-clause-err
returns-in_err-image-clause-err c =
    let p = err_from_is_err_and c.from_residual.result c.from_residual.ensures.1 in
    rw (p.1, p.2)
    (fault_within c.args.source.now c.args.first c.loop-zone.zone c.args.end c.loop-zone.images.items c.in_err-image.field-0.0 c.loop-zone.invariant (omega arith) c.in_err-image.ensures.err)

pub returns-in_err-image-clause-memory : goal.returns-in_err-image-clause-memory
returns-in_err-image-clause-memory c =
    let source = c.args.source.now in
    let zone = c.loop-zone.zone in
    let wants = wants_within source c.args.first zone c.args.end c.loop-zone.images.items c.loop-zone.invariant (omega arith) in
    let by = if_none_weaker (fault_of c.in_err-image.field-0.0) (ImageNeedsMemory (zone_of source zone)) (NeedsMemoryWithin source c.args.first c.args.end) wants c.in_err-image.ensures.memory in
    search (rules, by, c.from_residual.ensures)

pub returns-in_err-push-clause-memory : goal.returns-in_err-push-clause-memory
returns-in_err-push-clause-memory c =
    let source = c.args.source.now in
    let zone = c.loop-zone.zone in
    let image = c.in_ok-image.image in
    let is : IsReadImage (zone_of source zone) image = record { image = c.in_ok-image.ensures.ok; reads = c.in_ok-image.ensures.reads } in
    on_want fault_of c.from_residual-in_err-push.result (NeedsMemoryWithin source c.args.first c.args.end)
    (wants_within source c.args.first zone c.args.end c.loop-zone.images.items c.loop-zone.invariant (omega arith) (wanted source zone image is))

pub loop-zone-init : goal.loop-zone-init
loop-zone-init c = rw c.new-images.ensures.items (none_within c.args.source.now c.args.first)

pub loop-zone-preserved : goal.loop-zone-preserved
loop-zone-preserved c =
    let source = c.args.source.now in
    let is : IsReadImage (zone_of source c.loop-zone.zone) c.in_ok-image.image = record { image = c.in_ok-image.ensures.ok; reads = c.in_ok-image.ensures.reads } in
    rw c.in_ok-push.ensures.items (one_more source c.args.first c.loop-zone.zone c.loop-zone.images.items c.in_ok-image.image c.loop-zone.invariant is)
