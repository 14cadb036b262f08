use Rattle.std.proofs.Common.{refl, rules}
use Rattle.std.proofs.lemmas.Option.{IfSome_then}
use Rattle.zic_base.specs.Fault.{kind_of}
use Rattle.zic_base.proofs.MemoryLemmas.{on_want}
use Rattle.zic_states.specs.Fault.{HasOffsetOutOfRange}
use Rattle.zic_rules.specs.code.Period.{the_zone}
use Rattle.zic_rules.proofs.TimelineFaults.{fault_of_range, fault_of_periods}
use Rattle.zic_rules.proofs.compile.compiled.Goals as goal

pub returns-then-not-are_offsets_in_range-clause-err : goal.returns-then-not-are_offsets_in_range-clause-err
returns-then-not-are_offsets_in_range-clause-err c =
    fault_of_range (the_zone c.args.zone) (c.if-not-are_offsets_in_range.ensures.outside refl)

pub returns-in_err-all-clause-err : goal.returns-in_err-all-clause-err
returns-in_err-all-clause-err c =
    let by = IfSome_then (kind_of c.in_err-all.field-0.0) c.in_err-all.ensures.err
    (fault_of_periods (the_zone c.args.zone) (c.if-not-are_offsets_in_range.ensures.inside refl)) in
    search (rules, by, c.from_residual.ensures)

pub timeline_of-requires : goal.timeline_of-requires
timeline_of-requires c = record {
  periods = record {
    in_range = c.if-not-are_offsets_in_range.ensures.inside refl;
    orderly = record {
      sets = record { sound = c.rules.ensures.sound; in_order = c.in_ok-all.ensures.order };
      untils = c.in_ok-all.ensures.untils;
    };
    is_end = c.in_ok-all.ensures.end;
    periods = c.in_ok-all.ensures.all;
  };
}

pub returns-clause-ok : goal.returns-clause-ok
returns-clause-ok c = c.timeline_of.ensures.ok

pub returns-clause-sound : goal.returns-clause-sound
returns-clause-sound c = c.timeline_of.ensures.sound

pub returns-clause-err : goal.returns-clause-err
returns-clause-err c = c.timeline_of.ensures.err

pub returns-clause-memory : goal.returns-clause-memory
returns-clause-memory c =
    on_want kind_of c.timeline_of.result (HasOffsetOutOfRange (the_zone c.args.zone) → ⊥) (c.if-not-are_offsets_in_range.ensures.inside refl)

pub returns-clause-fixed : goal.returns-clause-fixed
returns-clause-fixed c = search rules
