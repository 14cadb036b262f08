use Rattle.std.proofs.Common.{ℕ, take}
use Rattle.std.specs.Prelude.{Contains}
use Rattle.zic_source.specs.code.Chains.{IsFound, DifferOn}
use Rattle.zic_source.proofs.chains.give.Given as goal

abbrev pub invariant-loop-link : goal.invariant-loop-link
invariant-loop-link l = record {
  given : (i : ℕ) → Contains (take l.link-index l.path) i → IsFound l.ends i l.end;
  others : DifferOn l.path l.fn.ends l.ends;
}
