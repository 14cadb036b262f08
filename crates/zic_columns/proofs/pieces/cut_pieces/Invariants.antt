use Rattle.std.proofs.Common.{◌≡◌, length}
use Rattle.zic_columns.proofs.Cuts.{IsCutTo}
use Rattle.zic_columns.proofs.pieces.cut_pieces.Given as goal

abbrev pub invariant-loop : goal.invariant-loop
invariant-loop l = record {
  count : length l.ranges.items ≡ l.counter;
  cut : IsCutTo l.delimiter.can l.bytes l.size l.ranges.items l.rest;
}
