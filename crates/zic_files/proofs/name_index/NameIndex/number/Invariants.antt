use Rattle.zic_files.specs.code.NameIndex.{bucket_in, IsSought}
use Rattle.zic_files.proofs.name_index.NameIndex.number.Given as goal

abbrev pub invariant-loop-rest : goal.invariant-loop-rest
invariant-loop-rest l = IsSought (bucket_in l.self) l.entries l.name l.rest

abbrev pub decreases-loop-rest : goal.decreases-loop-rest
decreases-loop-rest l = l.rest
