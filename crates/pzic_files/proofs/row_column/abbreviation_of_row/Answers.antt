use Rattle.std.proofs.Common.{None, Some, to_z-of_z}
use Rattle.zic_base.specs.State.{shown}
use Rattle.pzic_files.proofs.RowStates.{is-short}
use Rattle.pzic_files.proofs.row_column.abbreviation_of_row.Goals as goal

pub fill-requires : goal.fill-requires
fill-requires c = is-short c.in-Some.state.name.now c.in-Some.ensures.within.name

pub returns-in-Some : goal.returns-in-Some
returns-in-Some c = (Some (shown c.in-Some.state), simp (to_z-of_z, c.ranges.t) at c.in-Some.ensures.state, c.fill.ensures)

pub returns-in-None : goal.returns-in-None
returns-in-None c = (None, c.in-None.ensures.state, c.fill-in-None.ensures)
