use Rattle.std.proofs.Common.{◌-◌, ◌<◌}
use Rattle.zic_tzif.specs.code.Window.{IsWindow}
use Rattle.zic_tzif.proofs.times.Times.search.Given as goal

abbrev pub invariant-loop-level : goal.invariant-loop-level
invariant-loop-level l = record {
  window : IsWindow l.times l.t l.base l.level;
  fits : l.level < 63;
}

abbrev pub decreases-loop-level : goal.decreases-loop-level
decreases-loop-level l = l.level - 7
