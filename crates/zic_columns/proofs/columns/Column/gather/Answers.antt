use Rattle.std.proofs.KnownBytes.{Keeps-refl}
use Rattle.std.proofs.Common.{◌∙◌, [], refl}
use Rattle.zic_columns.specs.Round.{unread}
use Rattle.zic_columns.proofs.Buffered.{grows_none, grows_on, grows_same}
use Rattle.zic_columns.proofs.Taking.{takes_next, takes_none, within_none, within_both}
use Rattle.zic_columns.proofs.columns.Column.gather.Goals as goal

pub loop-init : goal.loop-init
loop-init g c = record {
  by = refl;
  delimiter = refl;
  takes = takes_none c.args.self.now.delimiter c.args.self.now.by _ _ (Keeps-refl (unread g.R.Read.remaining c.args.self.now));
  limit = within_none g.R.Read.remaining c.args.self.now;
  buffer = grows_none c.args.wanted c.args.longest c.args.self.now c.args.self.now refl;
}

pub loop-preserved : goal.loop-preserved
loop-preserved g c =
    let grew = grows_same c.args.wanted c.args.longest c.args.self.now c.loop.self c.buffered.new.self c.loop.invariant.buffer c.buffered.ensures.buffer in
    let buffered = within_both g.R.Read.remaining c.args.self.now c.loop.self c.buffered.new.self c.loop.invariant.limit c.buffered.ensures.limit in
    record {
      by = c.read_on.ensures.by ∙ c.buffered.ensures.by ∙ c.loop.invariant.by;
      delimiter = c.read_on.ensures.delimiter ∙ c.buffered.ensures.delimiter ∙ c.loop.invariant.delimiter;
      takes = takes_next c.args.self.now.delimiter c.args.self.now.by _ _ _ [] (takes_next c.args.self.now.delimiter c.args.self.now.by _ _ _ [] c.loop.invariant.takes (rw (c.loop.invariant.by, c.loop.invariant.delimiter) at c.buffered.ensures.takes))
          (takes_none c.args.self.now.delimiter c.args.self.now.by _ _ c.in_ok-read_on.ensures.keeps);
      limit = within_both g.R.Read.remaining c.args.self.now c.buffered.new.self c.read_on.new.self buffered c.read_on.ensures.limit;
      buffer = grows_on c.args.wanted c.args.longest c.args.self.now c.buffered.new.self c.read_on.new.self grew (c.buffered.ensures.short c.in_default.is) c.read_on.ensures.buffer;
    }

pub returns-in-Some-clause-limit : goal.returns-in-Some-clause-limit
returns-in-Some-clause-limit g c = within_both g.R.Read.remaining c.args.self.now c.loop.self c.buffered.new.self c.loop.invariant.limit c.buffered.ensures.limit

pub returns-in_err-read_on-clause-limit : goal.returns-in_err-read_on-clause-limit
returns-in_err-read_on-clause-limit g c =
    let buffered = within_both g.R.Read.remaining c.args.self.now c.loop.self c.buffered.new.self c.loop.invariant.limit c.buffered.ensures.limit in
    within_both g.R.Read.remaining c.args.self.now c.buffered.new.self c.read_on.new.self buffered c.read_on.ensures.limit

pub returns-then-branch-eq0-clause-limit : goal.returns-then-branch-eq0-clause-limit
returns-then-branch-eq0-clause-limit g c =
    let buffered = within_both g.R.Read.remaining c.args.self.now c.loop.self c.buffered.new.self c.loop.invariant.limit c.buffered.ensures.limit in
    within_both g.R.Read.remaining c.args.self.now c.buffered.new.self c.read_on.new.self buffered c.read_on.ensures.limit

pub returns-in-Some-clause-takes : goal.returns-in-Some-clause-takes
returns-in-Some-clause-takes g c = takes_next c.args.self.now.delimiter c.args.self.now.by _ _ _ [] c.loop.invariant.takes (rw (c.loop.invariant.by, c.loop.invariant.delimiter) at c.buffered.ensures.takes)

pub returns-then-branch-eq0-clause-takes : goal.returns-then-branch-eq0-clause-takes
returns-then-branch-eq0-clause-takes g c =
    takes_next c.args.self.now.delimiter c.args.self.now.by _ _ _ [] (takes_next c.args.self.now.delimiter c.args.self.now.by _ _ _ [] c.loop.invariant.takes (rw (c.loop.invariant.by, c.loop.invariant.delimiter) at c.buffered.ensures.takes))
    (takes_none c.args.self.now.delimiter c.args.self.now.by _ _ c.in_ok-read_on.ensures.keeps)

pub returns-in-Some-clause-buffer : goal.returns-in-Some-clause-buffer
returns-in-Some-clause-buffer g c =
    grows_same c.args.wanted c.args.longest c.args.self.now c.loop.self c.buffered.new.self c.loop.invariant.buffer c.buffered.ensures.buffer

pub returns-in_err-read_on-clause-buffer : goal.returns-in_err-read_on-clause-buffer
returns-in_err-read_on-clause-buffer g c =
    let grew = grows_same c.args.wanted c.args.longest c.args.self.now c.loop.self c.buffered.new.self c.loop.invariant.buffer c.buffered.ensures.buffer in
    grows_on c.args.wanted c.args.longest c.args.self.now c.buffered.new.self c.read_on.new.self grew (c.buffered.ensures.short c.in_default.is) c.read_on.ensures.buffer

pub returns-then-branch-eq0-clause-buffer : goal.returns-then-branch-eq0-clause-buffer
returns-then-branch-eq0-clause-buffer g c =
    let grew = grows_same c.args.wanted c.args.longest c.args.self.now c.loop.self c.buffered.new.self c.loop.invariant.buffer c.buffered.ensures.buffer in
    grows_on c.args.wanted c.args.longest c.args.self.now c.buffered.new.self c.read_on.new.self grew (c.buffered.ensures.short c.in_default.is) c.read_on.ensures.buffer
