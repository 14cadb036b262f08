use Rattle.std.proofs.Common.{◌≡◌, ℕ, ◌<◌, length, get_or, pos}
use Rattle.zic_posix.specs.code.Years.{edge_second}
use Rattle.zic_posix.proofs.years.edge_seconds.Given as goal

abbrev pub invariant-loop-kind : goal.invariant-loop-kind
invariant-loop-kind l = (length l.seconds ≡ 14) × ((k : ℕ) → k < l.kind → get_or l.seconds k (pos 0) ≡ edge_second l.edge l.offset k)
