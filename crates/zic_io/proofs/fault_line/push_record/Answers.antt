use Rattle.zic_io.proofs.FaultLemmas.{gets_both}
use Rattle.zic_io.proofs.fault_line.push_record.Goals as goal

pub returns-clause-grows : goal.returns-clause-grows
returns-clause-grows g c = rw (← c.bytes.ensures) (gets_both g.W.Write.contents c.args.own.now c.bytes.result.now _ _ _ c.push.ensures.grows c.push-2.ensures.grows)
