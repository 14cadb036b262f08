use Rattle.std.proofs.Common.{◌≡◌, ◌+◌, ◌≤◌, length}
use Rattle.zic_compile.proofs.Entries.{AreEntriesSoFar}
use Rattle.zic_compile.proofs.entry.entries_of.Given as goal

abbrev pub invariant-loop : goal.invariant-loop
invariant-loop l = record {
  count : l.zone + l.link ≡ l.counter;
  zone : l.zone ≤ length l.source.zones;
  link : l.link ≤ length l.source.links;
  so_far : AreEntriesSoFar l.source l.zone l.link l.entries.items;
}
