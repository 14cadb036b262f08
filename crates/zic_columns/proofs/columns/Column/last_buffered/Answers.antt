use Rattle.std.proofs.Common.{◌≡◌, ◌∙◌, ap, sym, subst}
use Rattle.zic_layouts.specs.declared.layout.Records.TheVariants as by
use Rattle.zic_columns.specs.Column.{CanDelimit}
use Rattle.zic_columns.specs.Round.{ColumnOf}
use Rattle.zic_columns.specs.code.Buffered.{to_come}
use Rattle.zic_columns.proofs.ScannedBy.{last_closed, last_of_csv, last_open}
use Rattle.zic_columns.proofs.columns.Column.last_buffered.Goals as goal

pub returns-in-Lines : goal.returns-in-Lines
returns-in-Lines g c =
    let column = c.args.self.now in
    let held = c.held-held.ensures ∙ ap (λ (column : ColumnOf _). column.held) c.self.view_is in
    let delimiter = ap (λ (column : ColumnOf _). column.delimiter) c.self.view_is in
    let can = subst CanDelimit delimiter c.self.inside.delimiter.can in
    let mode : column.by ≡ by.Lines = sym (ap (λ (column : ColumnOf _). column.by) c.self.view_is) ∙ sym c.records.ensures ∙ c.in-Lines.is in
    let opened = rw (held, delimiter) at (sym c.is_open.ensures ∙ c.if-is_open.true) in
    rw (mode, held) (last_open can column.held (to_come g.R.Read.remaining column) c.requires.end (rw mode at c.requires.unended) opened)

pub returns-in-Lines-2 : goal.returns-in-Lines-2
returns-in-Lines-2 g c =
    let column = c.args.self.now in
    let held = c.held-held.ensures ∙ ap (λ (column : ColumnOf _). column.held) c.self.view_is in
    let delimiter = ap (λ (column : ColumnOf _). column.delimiter) c.self.view_is in
    let can = subst CanDelimit delimiter c.self.inside.delimiter.can in
    let mode : column.by ≡ by.Lines = sym (ap (λ (column : ColumnOf _). column.by) c.self.view_is) ∙ sym c.records.ensures ∙ c.in-Lines-2.is in
    let closed = rw (held, delimiter) at (sym c.is_open.ensures ∙ c.if-is_open.false) in
    rw (mode, held) (last_closed can column.held (to_come g.R.Read.remaining column) c.requires.end (rw mode at c.requires.unended) closed)

pub returns-in-Csv : goal.returns-in-Csv
returns-in-Csv g c =
    let column = c.args.self.now in
    let held = c.held-held.ensures ∙ ap (λ (column : ColumnOf _). column.held) c.self.view_is in
    let delimiter = ap (λ (column : ColumnOf _). column.delimiter) c.self.view_is in
    let can = subst CanDelimit delimiter c.self.inside.delimiter.can in
    let mode : column.by ≡ by.Csv = sym (ap (λ (column : ColumnOf _). column.by) c.self.view_is) ∙ sym c.records.ensures ∙ c.in-Csv.is in
    rw (mode, held) (last_of_csv can column.held (to_come g.R.Read.remaining column) c.requires.end)
