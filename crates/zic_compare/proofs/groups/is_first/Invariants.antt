use Rattle.std.specs.Prelude.{IfSome, slice_get}
use Rattle.zic_compare.specs.code.Groups.{HasNoneBefore}
use Rattle.zic_compare.proofs.groups.is_first.Given as goal

-- none of the files so far is of the group
abbrev pub invariant-loop-other : goal.invariant-loop-other
invariant-loop-other l = IfSome (slice_get l.own l.file) (λ one. HasNoneBefore l.own l.others one l.other)
