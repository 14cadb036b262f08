use Rattle.std.proofs.Common.{◌≡◌, ◌-◌, ◌*◌, ◌≤◌, ◌∷◌, map, length}
use Rattle.zic_tzif.specs.Block.{pieces, time_in, do_rise}
use Rattle.zic_tzif.proofs.transition.do_rise.Given as goal

abbrev pub invariant-loop : goal.invariant-loop
invariant-loop l = record {
  enough : (l.count - l.counter) * 8 ≤ length l.rest;
  left : do_rise (l.last ∷ map time_in (pieces 8 (l.count - l.counter) l.rest)) ≡ do_rise (map time_in (pieces 8 l.count l.times));
}
