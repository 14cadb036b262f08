use Rattle.std.proofs.Common.{◌≡◌, length}
use Rattle.zic_zones.specs.code.Ready.{AreReady}
use Rattle.zic_zones.proofs.ready.Ready.extend.Given as goal

abbrev pub invariant-loop-file : goal.invariant-loop-file
invariant-loop-file l = record {
  long : length l.self.zones.items ≡ l.file;
  are : AreReady l.files l.self;
}
