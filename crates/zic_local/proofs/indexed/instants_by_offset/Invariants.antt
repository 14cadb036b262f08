use Rattle.zic_local.specs.code.Indexing.{IsTried}
use Rattle.zic_local.proofs.indexed.instants_by_offset.Given as goal

abbrev pub invariant-loop-offset : goal.invariant-loop-offset
invariant-loop-offset l = IsTried l.zone l.local l.offset-items l.offset-index l.given
