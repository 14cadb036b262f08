use Rattle.std.proofs.Common.{rules, None, Some, refl, to_z-of_z}
use Rattle.zic_base.specs.State.{shown}
use Rattle.pzic_files.proofs.row_column.cells_of_row.Goals as goal

pub returns-in-Some-clause-offset : goal.returns-in-Some-clause-offset
returns-in-Some-clause-offset c = (Some (shown c.in-Some.state), simp (to_z-of_z, c.ranges.t) at c.in-Some.ensures.state, search rules)

pub returns-in-Some-clause-flags : goal.returns-in-Some-clause-flags
returns-in-Some-clause-flags c = (Some (shown c.in-Some.state), simp (to_z-of_z, c.ranges.t) at c.in-Some.ensures.state, search rules)

pub returns-in-None-clause-offset : goal.returns-in-None-clause-offset
returns-in-None-clause-offset c = (None, c.in-None.ensures.state, refl)

pub returns-in-None-clause-flags : goal.returns-in-None-clause-flags
returns-in-None-clause-flags c = (None, c.in-None.ensures.state, refl)
