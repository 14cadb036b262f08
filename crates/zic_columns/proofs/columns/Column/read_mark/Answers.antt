use Rattle.std.proofs.Common.{◌≤◌, ◌∙◌, ap, arith, inl, length, length-append, refl}
use Rattle.std.proofs.KnownBytes.{Keeps-refl, Keeps-trans}
use Rattle.zic_columns.specs.Round.{ColumnOf, unread}
use Rattle.zic_columns.proofs.Buffered.{unshown_few}
use Rattle.zic_columns.proofs.MarkFacts.{mark_shown}
use Rattle.zic_columns.proofs.Taking.{within_none, within_both}
use Rattle.zic_columns.proofs.columns.Column.read_mark.Goals as goal

pub loop-init : goal.loop-init
loop-init g c = record {
  by = refl;
  delimiter = refl;
  keeps = Keeps-refl (unread g.R.Read.remaining c.args.self.now);
  grows = omega arith;
  limit = within_none g.R.Read.remaining c.args.self.now;
  buffer = omega arith;
}

pub loop-preserved : goal.loop-preserved
loop-preserved g c =
    let bytes = unread g.R.Read.remaining in
    let held = c.held.ensures ∙ ap (λ (column : ColumnOf _). column.held) c.self.view_is in
    let few = unshown_few c.held.result.now c.shows_mark.result c.shows_mark.ensures c.if-shows_mark.false in
    record {
      keeps = Keeps-trans (bytes c.args.self.now) (bytes c.loop.self) (bytes c.read_on.new.self) c.loop.invariant.keeps c.in_ok-read_on.ensures.keeps;
      by = c.read_on.ensures.by ∙ c.loop.invariant.by;
      delimiter = c.read_on.ensures.delimiter ∙ c.loop.invariant.delimiter;
      grows = omega (arith, c.loop.invariant.grows, c.in_ok-read_on.ensures.grows.1, ap length c.in_ok-read_on.ensures.grows.2, length-append c.loop.self.held c.in_ok-read_on.ensures.grows.0, c.if-branch-eq0.false);
      limit = within_both g.R.Read.remaining c.args.self.now c.loop.self c.read_on.new.self c.loop.invariant.limit c.read_on.ensures.limit;
      buffer = omega (arith, c.loop.invariant.buffer, c.read_on.ensures.buffer, few, ap length held);
    }

pub returns-clause-shows : goal.returns-clause-shows
returns-clause-shows g c =
    let three : 3 ≤ length c.loop.self.held = omega (arith, c.loop.invariant.grows, c.loop-test.false, c.loop.auto.counter-end) in
    inl (λ rest. mark_shown c.loop.self.held rest three)

pub returns-in_err-read_on-clause-limit : goal.returns-in_err-read_on-clause-limit
returns-in_err-read_on-clause-limit g c = within_both g.R.Read.remaining c.args.self.now c.loop.self c.read_on.new.self c.loop.invariant.limit c.read_on.ensures.limit

pub returns-then-branch-eq0-clause-limit : goal.returns-then-branch-eq0-clause-limit
returns-then-branch-eq0-clause-limit g c = within_both g.R.Read.remaining c.args.self.now c.loop.self c.read_on.new.self c.loop.invariant.limit c.read_on.ensures.limit

pub returns-in_err-read_on-clause-buffer : goal.returns-in_err-read_on-clause-buffer
returns-in_err-read_on-clause-buffer g c =
    let held = c.held.ensures ∙ ap (λ (column : ColumnOf _). column.held) c.self.view_is in
    let few = unshown_few c.held.result.now c.shows_mark.result c.shows_mark.ensures c.if-shows_mark.false in
    omega (arith, c.loop.invariant.buffer, c.read_on.ensures.buffer, few, ap length held)

pub returns-then-branch-eq0-clause-buffer : goal.returns-then-branch-eq0-clause-buffer
returns-then-branch-eq0-clause-buffer g c =
    let held = c.held.ensures ∙ ap (λ (column : ColumnOf _). column.held) c.self.view_is in
    let few = unshown_few c.held.result.now c.shows_mark.result c.shows_mark.ensures c.if-shows_mark.false in
    omega (arith, c.loop.invariant.buffer, c.read_on.ensures.buffer, few, ap length held)
