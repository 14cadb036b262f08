use Rattle.std.proofs.Common.{◌∙◌, ap, rules, subst}
use Rattle.zic_columns.specs.Column.{CanDelimit}
use Rattle.zic_columns.specs.Round.{ColumnOf}
use Rattle.zic_columns.specs.code.Buffered.{to_come}
use Rattle.zic_columns.proofs.Passing.{are_first_own, passes_first, within}
use Rattle.zic_columns.proofs.columns.Column.pass_first.Goals as goal

pub pass-requires-clause-within : goal.pass-requires-clause-within
pass-requires-clause-within g c =
    let column = c.args.self.now in
    let held = c.held.ensures ∙ ap (λ (column : ColumnOf _). column.held) c.self.view_is in
    let delimiter = ap (λ (column : ColumnOf _). column.delimiter) c.self.view_is in
    let can = subst CanDelimit delimiter c.self.inside.delimiter.can in
    let cut = rw (held, delimiter) at c.split_records.ensures in
    within can column.by column.held c.args.count c.split_records.result.0.now c.split_records.result.1.now cut

pub returns-clause-passes : goal.returns-clause-passes
returns-clause-passes g c =
    let column = c.args.self.now in
    let held = c.held.ensures ∙ ap (λ (column : ColumnOf _). column.held) c.self.view_is in
    let delimiter = ap (λ (column : ColumnOf _). column.delimiter) c.self.view_is in
    let can = subst CanDelimit delimiter c.self.inside.delimiter.can in
    let cut = rw (held, delimiter) at c.split_records.ensures in
    rw c.pass.ensures.passed (passes_first can column.by column.held c.args.count c.split_records.result.0.now c.split_records.result.1.now cut
    (to_come g.R.Read.remaining column) c.requires)

pub returns-clause-own : goal.returns-clause-own
returns-clause-own g c =
    let column = c.args.self.now in
    let held = c.held.ensures ∙ ap (λ (column : ColumnOf _). column.held) c.self.view_is in
    let delimiter = ap (λ (column : ColumnOf _). column.delimiter) c.self.view_is in
    let can = subst CanDelimit delimiter c.self.inside.delimiter.can in
    let cut = rw (held, delimiter) at c.split_records.ensures in
    rw (c.in_ok-own.ensures, delimiter) (are_first_own can column.by column.held c.args.count c.split_records.result.0.now c.split_records.result.1.now cut
    (to_come g.R.Read.remaining column) c.requires)

pub returns-clause-none : goal.returns-clause-none
returns-clause-none g c = search rules
