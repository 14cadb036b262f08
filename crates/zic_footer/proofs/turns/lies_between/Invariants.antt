use Rattle.std.proofs.Common.{ℕ, ◌+◌, ◌-◌, ◌<◌, ◌≤◌, pos, ◌<ℤ◌}
use Rattle.zic_states.specs.Occurrence.{nominal_second}
use Rattle.zic_footer.proofs.turns.lies_between.Given as goal

abbrev pub invariant-loop-other : goal.invariant-loop-other
invariant-loop-other l = (k : ℕ) → l.year - 1 ≤ k → k < l.other → nominal_second (pos l.year) l.a <ℤ nominal_second (pos k) l.b
    → nominal_second (pos k) l.b <ℤ nominal_second (pos (l.year + 1)) l.a → ⊥
