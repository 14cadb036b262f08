use Rattle.std.proofs.Common.{◌≡◌, ◌∙◌, ap, length, rules, sym, subst}
use Rattle.std.proofs.lemmas.Bool.{eqb-true}
use Rattle.std.specs.Vec.{vec_len}
use Rattle.zic_columns.specs.Column.{CanDelimit}
use Rattle.zic_columns.specs.Round.{ColumnOf}
use Rattle.zic_columns.specs.code.Buffered.{to_come}
use Rattle.zic_columns.proofs.Cuts.{pieces_cut}
use Rattle.zic_columns.proofs.Taking.{none_left, takes_cut, takes_none_left}
use Rattle.zic_columns.proofs.columns.Column.take_round.Goals as goal

pub returns-then-none-clause-takes : goal.returns-then-none-clause-takes
returns-then-none-clause-takes g c =
    let column = c.args.self.now in
    let held = c.held.ensures ∙ ap (λ (column : ColumnOf _). column.held) c.self.view_is in
    let delimiter = ap (λ (column : ColumnOf _). column.delimiter) c.self.view_is in
    let can = subst CanDelimit delimiter c.self.inside.delimiter.can in
    let cut = rw (held, delimiter) at c.in_ok-cut.ensures in
    let size : length c.in_ok-cut.cut.ranges.items ≡ vec_len c.in_ok-cut.cut.ranges = search rules in
    let nil = eqb-true _ 0 (sym c.is_empty-none.ensures ∙ c.if-none.true) in
    rw c.pass.ensures.passed (takes_none_left can column.by column.held c.args.count c.args.size c.in_ok-cut.cut cut (to_come g.R.Read.remaining column) c.requires.cut (size ∙ nil))

pub returns-then-none-clause-end : goal.returns-then-none-clause-end
returns-then-none-clause-end g c = λ _.
    let column = c.args.self.now in
    let held = c.held.ensures ∙ ap (λ (column : ColumnOf _). column.held) c.self.view_is in
    let delimiter = ap (λ (column : ColumnOf _). column.delimiter) c.self.view_is in
    let can = subst CanDelimit delimiter c.self.inside.delimiter.can in
    let cut = rw (held, delimiter) at c.in_ok-cut.ensures in
    let size : length c.in_ok-cut.cut.ranges.items ≡ vec_len c.in_ok-cut.cut.ranges = search rules in
    let nil = eqb-true _ 0 (sym c.is_empty-none.ensures ∙ c.if-none.true) in
    rw c.pass.ensures.passed (none_left can column.by column.held c.args.count c.args.size c.in_ok-cut.cut cut (to_come g.R.Read.remaining column) c.requires.cut (size ∙ nil))

pub returns-clause-takes : goal.returns-clause-takes
returns-clause-takes g c =
    let column = c.args.self.now in
    let held = c.held.ensures ∙ ap (λ (column : ColumnOf _). column.held) c.self.view_is in
    let delimiter = ap (λ (column : ColumnOf _). column.delimiter) c.self.view_is in
    let can = subst CanDelimit delimiter c.self.inside.delimiter.can in
    let cut = rw (held, delimiter) at c.in_ok-cut.ensures in
    rw c.pass.ensures.passed (takes_cut can column.by column.held c.args.count c.args.size c.in_ok-cut.cut cut (to_come g.R.Read.remaining column) c.requires.cut)

pub returns-clause-cut : goal.returns-clause-cut
returns-clause-cut g c =
    let column = c.args.self.now in
    let held = c.held.ensures ∙ ap (λ (column : ColumnOf _). column.held) c.self.view_is in
    let delimiter = ap (λ (column : ColumnOf _). column.delimiter) c.self.view_is in
    let can = subst CanDelimit delimiter c.self.inside.delimiter.can in
    let cut = rw (held, delimiter) at c.in_ok-cut.ensures in
    rw (c.pass.ensures.passed, ← (pieces_cut can) column.held c.args.count c.args.size c.in_ok-cut.cut cut) cut.sizes
