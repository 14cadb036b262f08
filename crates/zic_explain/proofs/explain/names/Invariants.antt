use Rattle.std.proofs.Common.{◌≡◌, map, take}
use Rattle.zic_explain.specs.Explanation.{names_of}
use Rattle.zic_explain.proofs.explain.names.Given as goal

-- the names of the entries so far
abbrev pub invariant-loop-entry : goal.invariant-loop-entry
invariant-loop-entry l = map (λ name. name.now) l.names.items ≡ names_of (take l.entry-index l.entries)
