use Rattle.pzic_zones.specs.Local.{IsInstantMeant, IsStatusMeant}
use Rattle.pzic_zones.specs.code.Written.{IsWritten}
use Rattle.pzic_zones.proofs.local_column.write.Given as goal

abbrev pub invariant-loop-i : goal.invariant-loop-i
invariant-loop-i l = IsWritten (IsInstantMeant l.zone l.choice) (IsStatusMeant l.zone l.choice) l.locals l.instants l.statuses l.i
