use Rattle.std.proofs.Common.{◌≡◌, []}
use Rattle.zic_columns.specs.Round.{GrowsFor, StaysWithin, Takes, unread}
use Rattle.zic_columns.proofs.columns.Column.gather.Given as goal

abbrev pub invariant-loop : goal.invariant-loop
invariant-loop g l = record {
  by : l.self.by ≡ l.fn.self.by;
  delimiter : l.self.delimiter ≡ l.fn.self.delimiter;
  takes : Takes l.fn.self.by l.fn.self.delimiter (unread g.R.Read.remaining l.fn.self) (unread g.R.Read.remaining l.self) [];
  limit : StaysWithin g.R.Read.remaining l.fn.self l.self;
  buffer : GrowsFor l.wanted l.longest l.fn.self l.self;
}
