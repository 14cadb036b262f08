use Rattle.std.proofs.Common.{◌≡◌, ◌≤◌, ◌∙◌, ap, length}
use Rattle.std.proofs.lemmas.List.Elements.{All-nil}
use Rattle.zic_columns.specs.code.Window.{taken_bytes}
use Rattle.std.proofs.KnownBytes.{prepend_known-nil}
use Rattle.zic_columns.specs.Round.{ColumnOf}
use Rattle.zic_columns.specs.code.Buffered.{to_come}
use Rattle.zic_columns.proofs.Taking.{mark_dropped, unmarked_shorter}
use Rattle.zic_columns.proofs.columns.Column.new.Goals as goal

pub overflow_sub-mark : goal.overflow_sub-mark
overflow_sub-mark g c = rw c.without_mark.ensures (unmarked_shorter c.held-held.result.now)

pub returns-clause-bytes : goal.returns-clause-bytes
returns-clause-bytes g c =
    let mid = c.read_mark.new.self in
    let held : c.held-held.result.now ≡ mid.held = c.held-held.ensures ∙ ap (λ (column : ColumnOf _). column.held) c.column.view_is in
    let keeps = rw (c.new-2.ensures.held, c.new.ensures.none, c.new.ensures.inner, prepend_known-nil (g.R.Read.remaining c.args.reader))
    at c.in_ok-read_mark.ensures.keeps in
    rw (c.pass.ensures.passed, c.without_mark.ensures, held) (mark_dropped (g.R.Read.remaining c.args.reader)
    (to_come g.R.Read.remaining mid) mid.held keeps c.in_ok-read_mark.ensures.shows)

pub returns-clause-limit : goal.returns-clause-limit
returns-clause-limit g c = rw c.pass.ensures.passed (rw (c.new.ensures.inner, c.new.ensures.none, c.new.ensures.left) at c.in_ok-read_mark.ensures.limit)

pub invariant_of-column : goal.invariant_of-column
invariant_of-column g c =
    rw (c.new-4.ensures.items, c.new-2.ensures.held) (All-nil (λ range. (range.start ≤ range.end) × (range.end ≤ length (taken_bytes c.new-2.result))), c.new-3.ensures.scanned _)
