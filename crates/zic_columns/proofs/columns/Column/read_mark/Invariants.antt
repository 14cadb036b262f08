use Rattle.std.proofs.Common.{◌≡◌, ◌≤◌, length, max}
use Rattle.std.specs.Io.KnownBytes.{Keeps}
use Rattle.zic_columns.specs.declared.buffer.TheConstants.{FIRST_ROOM}
use Rattle.zic_columns.specs.Round.{StaysWithin, unread}
use Rattle.zic_columns.proofs.columns.Column.read_mark.Given as goal

abbrev pub invariant-loop : goal.invariant-loop
invariant-loop g l = record {
  by : l.self.by ≡ l.fn.self.by;
  delimiter : l.self.delimiter ≡ l.fn.self.delimiter;
  keeps : Keeps (unread g.R.Read.remaining l.fn.self) (unread g.R.Read.remaining l.self);
  grows : l.counter ≤ length l.self.held;
  limit : StaysWithin g.R.Read.remaining l.fn.self l.self;
  buffer : l.self.buffer ≤ max l.fn.self.buffer FIRST_ROOM;
}
