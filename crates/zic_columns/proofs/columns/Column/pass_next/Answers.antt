use Rattle.zic_columns.specs.Round.{unread}
use Rattle.zic_columns.proofs.Buffered.{grows_same}
use Rattle.zic_columns.proofs.Passing.{long_next, own_next, passes_next}
use Rattle.zic_columns.proofs.Taking.{within_both}
use Rattle.zic_columns.proofs.columns.Column.pass_next.Goals as goal

pub returns-in_ok-pass_first-in-Records-clause-passes : goal.returns-in_ok-pass_first-in-Records-clause-passes
returns-in_ok-pass_first-in-Records-clause-passes g c =
    let old = c.args.self.now in
    let mid = c.gather.new.self in
    let new = c.pass_first.new.self in
    passes_next old.delimiter old.by (unread g.R.Read.remaining old) (unread g.R.Read.remaining mid) (unread g.R.Read.remaining new) c.in_ok-count.ensures.takes
    (rw (c.gather.ensures.by, c.gather.ensures.delimiter) at c.in_ok-pass_first-in-Records.ensures.passes)

pub returns-in_ok-pass_first-in-Records-clause-own : goal.returns-in_ok-pass_first-in-Records-clause-own
returns-in_ok-pass_first-in-Records-clause-own g c =
    let old = c.args.self.now in
    let mid = c.gather.new.self in
    own_next old.delimiter old.by _ (unread g.R.Read.remaining old) (unread g.R.Read.remaining mid) c.in_ok-count.ensures.takes (rw (c.gather.ensures.by, c.gather.ensures.delimiter) at c.in_ok-pass_first-in-Records.ensures.own)

pub returns-in_ok-pass_first-in-Records-clause-limit : goal.returns-in_ok-pass_first-in-Records-clause-limit
returns-in_ok-pass_first-in-Records-clause-limit g c = within_both g.R.Read.remaining c.args.self.now c.gather.new.self c.pass_first.new.self c.gather.ensures.limit c.pass_first.ensures.limit

pub returns-in_err-pass_first-in-Records-clause-limit : goal.returns-in_err-pass_first-in-Records-clause-limit
returns-in_err-pass_first-in-Records-clause-limit g c = within_both g.R.Read.remaining c.args.self.now c.gather.new.self c.pass_first.new.self c.gather.ensures.limit c.pass_first.ensures.limit

pub returns-in-TooLong-clause-long : goal.returns-in-TooLong-clause-long
returns-in-TooLong-clause-long g c = λ _.
    let old = c.args.self.now in
    let mid = c.gather.new.self in
    long_next old.delimiter c.args.longest old.by (unread g.R.Read.remaining old) (unread g.R.Read.remaining mid) c.in_ok-count.ensures.takes
    (rw (c.in-TooLong.is, c.gather.ensures.by, c.gather.ensures.delimiter) at c.in_ok-count.ensures.buffered)

pub returns-in_ok-pass_first-in-Records-clause-buffer : goal.returns-in_ok-pass_first-in-Records-clause-buffer
returns-in_ok-pass_first-in-Records-clause-buffer g c =
    grows_same c.args.wanted c.args.longest c.args.self.now c.gather.new.self c.pass_first.new.self c.gather.ensures.buffer c.pass_first.ensures.buffer

pub returns-in_err-pass_first-in-Records-clause-buffer : goal.returns-in_err-pass_first-in-Records-clause-buffer
returns-in_err-pass_first-in-Records-clause-buffer g c =
    grows_same c.args.wanted c.args.longest c.args.self.now c.gather.new.self c.pass_first.new.self c.gather.ensures.buffer c.pass_first.ensures.buffer
