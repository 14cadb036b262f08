use Rattle.std.proofs.Common.{subst}
use Rattle.std.specs.Prelude.{IfSome}
use Rattle.std.specs.Option.{IfNone}
use Rattle.zic_base.specs.Fault.{fault_of}
use Rattle.zic_base.proofs.ZoneStops.{fault_placed, want_placed}
use Rattle.zic_source.specs.Source.{SourceLines}
use Rattle.zic_states.specs.Fault.{HasOffsetOutOfRange, IsFaultOfStates}
use Rattle.zic_rules.specs.Timeline.{zone_of, IsFixed}
use Rattle.zic_rules.specs.code.Faults.{IsFirstFault}
use Rattle.zic_rules.proofs.TimelineFaults.{fault_of_states}
use Rattle.zic_rules.proofs.compile.timeline.Goals as goal

pub returns-in-Err-clause-err : goal.returns-in-Err-clause-err
returns-in-Err-clause-err c =
    let zone = zone_of c.source.result.now c.args.zone in
    subst (λ (s : SourceLines). IfSome (fault_of c.at.result) (IsFaultOfStates (zone_of s c.args.zone))) c.source.ensures
    (fault_placed c.place.result c.in-Err.stop c.at.result (IsFirstFault zone) (IsFaultOfStates zone) c.at.ensures
    (fault_of_states zone c.place.result c.place.ensures) c.in-Err.ensures.err)

pub returns-in-Err-clause-memory : goal.returns-in-Err-clause-memory
returns-in-Err-clause-memory c =
    let zone = zone_of c.source.result.now c.args.zone in
    subst (λ (s : SourceLines). IfNone (fault_of c.at.result) (HasOffsetOutOfRange (zone_of s c.args.zone) → ⊥)) c.source.ensures
    (want_placed c.place.result c.in-Err.stop c.at.result (HasOffsetOutOfRange zone → ⊥) c.at.ensures c.in-Err.ensures.memory)

pub returns-in-Err-clause-fixed : goal.returns-in-Err-clause-fixed
returns-in-Err-clause-fixed c =
    let zone = zone_of c.source.result.now c.args.zone in
    subst (λ (s : SourceLines). IfNone (fault_of c.at.result) (IsFixed (zone_of s c.args.zone) → ⊥)) c.source.ensures
    (want_placed c.place.result c.in-Err.stop c.at.result (IsFixed zone → ⊥) c.at.ensures c.in-Err.ensures.fixed)
