use Rattle.std.proofs.Common.{ap}
use Rattle.zic_layouts.specs.Noted.{RowNote}
use Rattle.zic_io.specs.Faults.{fault_line}
use Rattle.zic_io.proofs.fault_line.push_fault.Goals as goal

pub returns-clause-grows : goal.returns-clause-grows
returns-clause-grows g c =
    let detail = c.row.inside.detail in
    (fault_line c.args.fields c.row.inside.fault detail, (detail, ap (λ (r : RowNote). fault_line c.args.fields r.fault detail) c.row.view_is), c.push_line.ensures.grows)
