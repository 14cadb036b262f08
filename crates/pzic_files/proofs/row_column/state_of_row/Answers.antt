use Rattle.std.proofs.Common.{rules, None, Some, to_z-of_z}
use Rattle.zic_base.specs.State.{shown}
use Rattle.pzic_files.proofs.RowStates.{given-by}
use Rattle.pzic_files.proofs.row_column.state_of_row.Goals as goal

pub returns-in-Known-clause-state : goal.returns-in-Known-clause-state
returns-in-Known-clause-state c = given-by c.args.files.now c.args.zone c.zone.result.now c.args.t (shown c.in-Known.state) (search rules) c.zone.ensures.zone (simp (to_z-of_z, c.ranges.t) at c.in-Known.ensures)

pub returns-in-Known-clause-within : goal.returns-in-Known-clause-within
returns-in-Known-clause-within c = c.zone.ensures.known c.args.t (Some (shown c.in-Known.state)) (simp (to_z-of_z, c.ranges.t) at c.in-Known.ensures)

pub returns-in-Unspecified-clause-state : goal.returns-in-Unspecified-clause-state
returns-in-Unspecified-clause-state c = absurd (c.zone.ensures.known c.args.t None (simp (to_z-of_z, c.ranges.t) at c.in-Unspecified.ensures))
