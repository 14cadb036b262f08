use Rattle.std.proofs.Common.{◌≡◌, length}
use Rattle.zic_zones.specs.code.NameKeys.{AreNamesOf}
use Rattle.zic_zones.proofs.name_keys.NameKeys.extend.Given as goal

abbrev pub invariant-loop-file : goal.invariant-loop-file
invariant-loop-file l = record {
  long : length l.self ≡ l.file;
  are : AreNamesOf l.files l.self;
}
