use Rattle.std.proofs.Common.{◌≡◌, ◌<◌, ◌^◌, take}
use Rattle.zic_files.specs.code.NameIndex.{hash_of}
use Rattle.zic_files.proofs.name_index.hash_of.Given as goal

abbrev pub invariant-loop-byte : goal.invariant-loop-byte
invariant-loop-byte l = record {
  few : l.hash < 2 ^ 33;
  is : l.hash ≡ hash_of l.key (take l.byte-index l.name);
}
