use Rattle.std.proofs.Common.{take}
use Rattle.zic_explain.specs.Explanation.{HasNoName}
use Rattle.zic_explain.proofs.explain.entry_named.Given as goal

-- no entry so far has the name
abbrev pub invariant-loop-entry : goal.invariant-loop-entry
invariant-loop-entry l = HasNoName (take l.entry-index l.entries) l.name
