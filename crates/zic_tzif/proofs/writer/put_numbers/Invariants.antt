use Rattle.std.proofs.Common.{◌≡◌, ◌++◌, map, take}
use Rattle.zic_tzif.proofs.writer.put_numbers.Given as goal

abbrev pub invariant-loop-change : goal.invariant-loop-change
invariant-loop-change l = l.out.items ≡ l.fn.out.items ++ map (λ c. c.number) (take l.change-index l.changes)
