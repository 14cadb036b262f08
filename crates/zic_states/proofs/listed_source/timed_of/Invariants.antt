-- as many entries as rules so far, and each list that is there belongs to its set
use Rattle.std.proofs.Common.{◌≡◌, length}
use Rattle.zic_states.specs.code.Shared.{AreTimedListings}
use Rattle.zic_states.proofs.listed_source.timed_of.Given as goal

abbrev pub invariant-loop-number : goal.invariant-loop-number
invariant-loop-number l = record {
  count : length l.timed.items ≡ l.number;
  listed : AreTimedListings l.source.rules l.timed.items;
}
