use Rattle.std.specs.Prelude.{◌≡◌, ◌+◌, ◌++◌, filter, slice_range, IfSome, slice_get}
use Rattle.zic_compare.specs.Groups.{names_in, stand_together}
use Rattle.zic_compare.proofs.groups.field_of_group.Given as goal

-- the names of the group so far
abbrev pub invariant-loop-link : goal.invariant-loop-link
invariant-loop-link l =
    IfSome (slice_get l.own l.file) (λ one. l.field.items ≡ one.name ++ names_in (filter (stand_together l.others one) (slice_range l.own (l.file + 1) l.link)))
