use Rattle.probe.proofs.rows.local_times.zone_of.Goals as goal

pub returns-in-Ok : goal.returns-in-Ok
returns-in-Ok c = c.instants_are_near.ensures.offsets c.in_ok-text.field-0.now c.in-Ok.zone c.in-Ok.ensures.ok
