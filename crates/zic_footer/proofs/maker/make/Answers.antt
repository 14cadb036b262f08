use Rattle.zic_base.proofs.ZoneStops.{fault_placed, want_placed}
use Rattle.zic_footer.specs.Making.{IsFaultOfFooter}
use Rattle.zic_footer.specs.code.Faults.{IsFirstFault}
use Rattle.zic_footer.proofs.Outcomes.{placed}
use Rattle.zic_footer.proofs.maker.make.Goals as goal

pub returns-in-Err-clause-err : goal.returns-in-Err-clause-err
returns-in-Err-clause-err c =
    let zone = c.args.t.now in
    fault_placed c.args.zone_place c.in-Err.stop c.at.result (IsFirstFault zone) (IsFaultOfFooter zone c.args.zone_place) c.at.ensures
    (placed zone c.args.zone_place) c.in-Err.ensures.err

pub returns-in-Err-clause-memory : goal.returns-in-Err-clause-memory
returns-in-Err-clause-memory c = want_placed c.args.zone_place c.in-Err.stop c.at.result ⊥ c.at.ensures c.in-Err.ensures.memory
