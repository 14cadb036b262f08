use Rattle.std.proofs.Common.{◌≤◌}
use Rattle.std.specs.Prelude.{min}
use Rattle.zic_tzif.specs.code.Window.{IsWindow}
use Rattle.zic_tzif.proofs.times.narrow.Given as goal

abbrev pub invariant-loop-rest : goal.invariant-loop-rest
invariant-loop-rest l = record {
  window : IsWindow l.times l.t l.base (min l.rest l.level);
  short : l.rest ≤ 7;
}

abbrev pub decreases-loop-rest : goal.decreases-loop-rest
decreases-loop-rest l = l.rest
