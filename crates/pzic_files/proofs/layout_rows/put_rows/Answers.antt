use Rattle.std.proofs.Common.{ap, to_z, of_z, w32}
use Rattle.pzic_files.proofs.MadeRows.{held_rows, status_fits}
use Rattle.pzic_files.proofs.layout_rows.put_rows.Goals as goal

pub returns-in-Ok-hold_rows-clause-gives : goal.returns-in-Ok-hold_rows-clause-gives
returns-in-Ok-hold_rows-clause-gives c =
    held_rows c.args.files.now c.args.layout.now c.args.column.now c.in-Some.plan.max_rows (to_z w32 (of_z w32 c.status_of-status.result)) c.in-Ok.made c.in-Ok-made_of.made
    c.in-Ok-hold_rows.held.value c.put.new.self.owned.value c.in-Ok.ensures.rows (ap (λ plan. plan.max_rows) c.in-Some.ensures.plan)
    c.in-Ok-made_of.ensures.text c.in-Ok-made_of.ensures.count c.in-Ok-made_of.ensures.faults
    (status_fits c.in-Ok.made.fault c.status_of-status.result c.status_of-status.ensures) c.in-Ok-hold_rows.ensures c.put.ensures.put
