use Rattle.std.proofs.Common.{◌≡◌, ap, inl, inr}
use Rattle.std.proofs.lemmas.Result.{err_from_is_err_and}
use Rattle.zic_columns.specs.Round.{unread}
use Rattle.zic_layouts.specs.Layout.{records_before}
use Rattle.zic_convert.proofs.Heads.{header_halts}
use Rattle.zic_convert.proofs.conversion.begin_column.Goals as goal

pub returns-in_err-header-in-First-clause-halt : goal.returns-in_err-header-in-First-clause-halt
returns-in_err-header-in-First-clause-halt g c =
    let p = err_from_is_err_and c.from_residual-in_err-header-in-First.result c.from_residual-in_err-header-in-First.ensures.1 in
    let before : records_before c.args.by.now.layout.now.header ≡ 1 = elim c.in-First.is [
      | inl first ↦ ap records_before first
      | inr skipped ↦ ap records_before skipped
    ] in
    rw (p.1, p.2) (header_halts c.args.by.now.layout.now (g.R.Read.remaining c.args.reader) (unread g.R.Read.remaining c.in_ok-column.column) c.in_ok-column.column.by c.in_ok-column.column.delimiter c.in_ok-column.ensures.by c.in_ok-column.ensures.delimiter
    c.in_ok-column.ensures.bytes before c.in_err-header-in-First.field-0.0 c.in_err-header-in-First.ensures.halt)
