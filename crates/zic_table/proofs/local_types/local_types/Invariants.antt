use Rattle.std.proofs.Common.{map, take}
use Rattle.zic_base.specs.State.{shown}
use Rattle.zic_table.specs.code.LocalTypes.{AreLocalTypes}
use Rattle.zic_table.proofs.local_types.local_types.Given as goal

abbrev pub invariant-loop-state : goal.invariant-loop-state
invariant-loop-state l = AreLocalTypes (take l.state-index (map shown l.states)) l.types.items l.names.items
