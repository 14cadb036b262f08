use Rattle.std.proofs.Common.{◌≡◌, ◌∙◌, ℕ, false, List, ap, length, sym}
use Rattle.zic_columns.specs.Column.{CanDelimit}
use Rattle.zic_columns.specs.Round.{ColumnOf, may_have}
use Rattle.zic_columns.specs.code.Buffered.{UnendedBy, mode_of, whole_of_scan}
use Rattle.zic_columns.specs.code.Window.{held_bytes}
use Rattle.zic_columns.proofs.PartRecord.{too_long}
use Rattle.zic_columns.proofs.Cuts.{has_none, has_record}
use Rattle.zic_columns.proofs.ScannedBy.{cut_buffered, opens_with, unended_by, whole_closed, whole_records}
use Rattle.zic_columns.proofs.Taking.{takes_blank}
use Rattle.zic_columns.proofs.columns.Column.buffered.Goals as goal

pub returns-then-is_some-clause-buffered : goal.returns-then-is_some-clause-buffered
returns-then-is_some-clause-buffered g c =
    let column = c.self.inside in
    let some = rw (c.held.ensures, c.whole-whole.ensures) at (has_record column.delimiter.can _ c.first_record.result c.first_record.ensures (sym c.if-is_some.ensures)) in
    rw (c.whole-whole.ensures, ← c.self.view_is) (cut_buffered column.delimiter.can (held_bytes column.window) column.scan _ c.self.invariant.1 some)

pub returns-in-Some-clause-takes : goal.returns-in-Some-clause-takes
returns-in-Some-clause-takes g c =
    let column = c.self.inside in
    let held = held_bytes column.window in
    let none = rw (c.held.ensures, c.whole-whole.ensures) at (has_none column.delimiter.can _ c.first_record.result c.first_record.ensures (sym c.if-is_some.ensures)) in
    rw (c.pass.ensures.passed, c.whole-whole.ensures, ← c.self.view_is) (takes_blank column.delimiter.can (mode_of column.scan) held _ (whole_of_scan column.scan) (whole_records column.delimiter.can held column.scan c.self.invariant.1) (whole_closed column.delimiter.can held column.scan c.self.invariant.1) none)

pub returns-in-Some-clause-buffered : goal.returns-in-Some-clause-buffered
returns-in-Some-clause-buffered g c =
    let column = c.self.inside in
    rw (c.pass.ensures.passed, c.whole-whole.ensures, ← c.self.view_is) (opens_with column.delimiter.can (held_bytes column.window) column.scan c.in-Some.line _ c.self.invariant.1 (sym c.opened-opened.ensures ∙ c.in-Some.is))

pub returns-then-may_have-clause-takes : goal.returns-then-may_have-clause-takes
returns-then-may_have-clause-takes g c =
    let column = c.self.inside in
    let held = held_bytes column.window in
    let none = rw (c.held.ensures, c.whole-whole.ensures) at (has_none column.delimiter.can _ c.first_record.result c.first_record.ensures (sym c.if-is_some.ensures)) in
    rw (c.pass.ensures.passed, c.whole-whole.ensures, ← c.self.view_is) (takes_blank column.delimiter.can (mode_of column.scan) held _ (whole_of_scan column.scan) (whole_records column.delimiter.can held column.scan c.self.invariant.1) (whole_closed column.delimiter.can held column.scan c.self.invariant.1) none)

pub returns-then-may_have-clause-none : goal.returns-then-may_have-clause-none
returns-then-may_have-clause-none g c = λ _.
    let column = c.self.inside in
    rw (c.pass.ensures.passed, c.whole-whole.ensures, ← c.self.view_is) (unended_by column.delimiter.can (held_bytes column.window) column.scan c.self.invariant.1 (sym c.opened-opened.ensures ∙ c.in_default.is))

pub returns-clause-takes : goal.returns-clause-takes
returns-clause-takes g c =
    let column = c.self.inside in
    let held = held_bytes column.window in
    let none = rw (c.held.ensures, c.whole-whole.ensures) at (has_none column.delimiter.can _ c.first_record.result c.first_record.ensures (sym c.if-is_some.ensures)) in
    rw (c.pass.ensures.passed, c.whole-whole.ensures, ← c.self.view_is) (takes_blank column.delimiter.can (mode_of column.scan) held _ (whole_of_scan column.scan) (whole_records column.delimiter.can held column.scan c.self.invariant.1) (whole_closed column.delimiter.can held column.scan c.self.invariant.1) none)

pub returns-clause-buffered : goal.returns-clause-buffered
returns-clause-buffered g c =
    let column = c.self.inside in
    let now = c.pass.new.self in
    let held = c.held-2.ensures ∙ ap (λ (column : ColumnOf _). column.held) c.self-2.view_is in
    let long : may_have c.args.longest (length now.held) ≡ false = ap (λ (b : List ℕ). may_have c.args.longest (length b)) (sym held) ∙ sym c.may_have.ensures ∙ c.if-may_have.false in
    let unended : UnendedBy now.by now.delimiter now.held =
    rw (c.pass.ensures.passed, c.whole-whole.ensures, ← c.self.view_is) (unended_by column.delimiter.can (held_bytes column.window) column.scan c.self.invariant.1 (sym c.opened-opened.ensures ∙ c.in_default.is)) in
    let can : CanDelimit now.delimiter = rw (c.pass.ensures.passed, ← c.self.view_is) column.delimiter.can in
    too_long can c.args.longest now.by now.held _ unended long
