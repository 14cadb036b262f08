use Rattle.std.specs.Prelude.{All}
use Rattle.pzic_zones.specs.Column.{IsOffsetAt, AreFlagsAt}
use Rattle.pzic_zones.specs.code.Cached.{IsCached}
use Rattle.pzic_zones.specs.code.Written.{IsWritten}
use Rattle.pzic_zones.proofs.column.write_with.Given as goal

abbrev pub invariant-loop-i : goal.invariant-loop-i
invariant-loop-i l = All (IsCached l.zone) l.cached × IsCached l.zone l.last × IsWritten (IsOffsetAt l.zone) (AreFlagsAt l.zone) l.instants l.offsets l.flags l.i
