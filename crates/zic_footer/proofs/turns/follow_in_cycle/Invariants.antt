use Rattle.std.proofs.Common.{ℕ, ◌<◌, ◌≤◌, pos}
use Rattle.zic_footer.specs.declared.turns.TheConstants.{FIRST_YEAR}
use Rattle.zic_footer.specs.code.Turns.{LiesBetween}
use Rattle.zic_footer.proofs.turns.follow_in_cycle.Given as goal

abbrev pub invariant-loop-year : goal.invariant-loop-year
invariant-loop-year l = (k : ℕ) → FIRST_YEAR ≤ k → k < l.year → LiesBetween l.a l.b (pos k) × LiesBetween l.b l.a (pos k)
