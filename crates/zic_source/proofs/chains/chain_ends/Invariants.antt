use Rattle.std.proofs.Common.{◌≡◌, ◌<◌, ℕ, length}
use Rattle.zic_source.specs.code.Lines.{source_lines}
use Rattle.zic_source.specs.code.Chains.{HasEnd, AreRight}
use Rattle.zic_source.proofs.chains.chain_ends.Given as goal

abbrev pub invariant-loop-link : goal.invariant-loop-link
invariant-loop-link l = record {
  long : length l.ends.items ≡ length l.lines.links.items;
  found : (i : ℕ) → i < l.link → HasEnd l.ends.items i;
  right : AreRight (source_lines l.lines) l.ends.items;
}
