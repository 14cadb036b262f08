use Rattle.std.proofs.lemmas.Result.{IfOk-weaker}
use Rattle.zic_columns.specs.Round.{taken_records, unread}
use Rattle.zic_columns.proofs.Buffered.{grows_same}
use Rattle.zic_columns.proofs.Taking.{takes_next, within_both}
use Rattle.zic_columns.proofs.columns.Column.next_round.Goals as goal

pub returns-in-Records-clause-limit : goal.returns-in-Records-clause-limit
returns-in-Records-clause-limit g c = within_both g.R.Read.remaining c.args.self.now c.gather.new.self c.take_round.new.self c.gather.ensures.limit c.take_round.ensures.limit

pub returns-in-Records-clause-takes : goal.returns-in-Records-clause-takes
returns-in-Records-clause-takes g c =
    let old = c.args.self.now in
    let mid = c.gather.new.self in
    let new = c.take_round.new.self in
    IfOk-weaker c.take_round.result _ _
    (λ taken is. takes_next old.delimiter old.by (unread g.R.Read.remaining old) (unread g.R.Read.remaining mid) (unread g.R.Read.remaining new) (taken_records old.delimiter taken new.round) c.in_ok-count.ensures.takes
    (rw (c.gather.ensures.by, c.gather.ensures.delimiter) at is))
    c.take_round.ensures.takes

pub returns-in-Records-clause-long : goal.returns-in-Records-clause-long
returns-in-Records-clause-long g c = IfOk-weaker c.take_round.result _ _ (λ taken none long. absurd (none long)) c.take_round.ensures.short

pub returns-in-Records-clause-buffer : goal.returns-in-Records-clause-buffer
returns-in-Records-clause-buffer g c =
    grows_same c.args.wanted c.args.longest c.args.self.now c.gather.new.self c.take_round.new.self c.gather.ensures.buffer c.take_round.ensures.buffer
