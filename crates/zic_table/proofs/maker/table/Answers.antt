use Rattle.std.proofs.Common.{refl}
use Rattle.zic_base.proofs.ZoneStops.{fault_placed, want_placed}
use Rattle.zic_table.specs.ContentOf.{IsFaultOfTable, HasFewChanges}
use Rattle.zic_table.specs.code.Faults.{IsFirstFault}
use Rattle.zic_table.proofs.maker.table.Goals as goal

pub returns-in-Err-clause-err : goal.returns-in-Err-clause-err
returns-in-Err-clause-err c =
    let zone = c.args.t.now in
    fault_placed c.args.zone_place c.in-Err.stop c.at.result (IsFirstFault zone) (IsFaultOfTable zone c.args.zone_place) c.at.ensures
    (λ kind is. record {
      first = is.first;
      changes = is.changes;
      are_changes = is.are_changes;
      is_first = is.is_first;
      first_exceeded = (refl, is.first_exceeded);
    })
    c.in-Err.ensures.err

pub returns-in-Err-clause-memory : goal.returns-in-Err-clause-memory
returns-in-Err-clause-memory c = want_placed c.args.zone_place c.in-Err.stop c.at.result (HasFewChanges c.args.t.now) c.at.ensures c.in-Err.ensures.memory
