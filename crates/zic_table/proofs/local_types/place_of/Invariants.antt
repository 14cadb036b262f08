use Rattle.std.proofs.Common.{map}
use Rattle.zic_base.specs.State.{shown}
use Rattle.zic_table.specs.code.LocalTypes.{HasNoName}
use Rattle.zic_table.proofs.local_types.place_of.Given as goal

abbrev pub invariant-loop-i : goal.invariant-loop-i
invariant-loop-i l = HasNoName (map shown l.states) l.i l.name
