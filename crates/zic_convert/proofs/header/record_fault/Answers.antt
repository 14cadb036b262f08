use Rattle.std.proofs.Common.{◌≡◌, ◌∙◌, List, Some, None, ap, ap₂, subst}
use Rattle.std.specs.Option.{option_or}
use Rattle.zic_columns.specs.Own.{CsvRecord}
use Rattle.zic_layouts.specs.Noted.{RowNote}
use Rattle.zic_piece_rows.specs.PieceRows.{AreRowsOf, RowsOf}
use Rattle.zic_convert.proofs.HeaderFaults.{first_is, first_noted, one_fault}
use Rattle.zic_convert.proofs.header.record_fault.Goals as goal
use Rattle.zic_convert.proofs.header.record_fault.Goals.{in-Some, in-None}

pub returns : goal.returns
returns c =
    let layout = c.args.layout.now in
    let releases = c.args.releases.now in
    let rows = c.in_ok-rows.rows in
    let same : c.deref.result.now ≡ rows.faults = c.deref.ensures.value ∙ ap (λ (r : RowsOf). r.faults) c.rows.view_is in
    let first : c.match-first.noted ≡ first_noted rows.faults = elim c.match-first.branch [
      | in-Some w ↦ w.noted-is ∙ ap (λ (r : RowNote). Some r.fault.kind) w.row.view_is ∙ first_is c.deref.result.now (Some w.in-Some.row.now) w.in-Some.ensures.value ∙ ap first_noted same
      | in-None w ↦ w.noted-is ∙ first_is c.deref.result.now None w.in-None.ensures.value ∙ ap first_noted same
    ] in
    λ given is.
    c.or.ensures ∙ ap₂ option_or (ap (λ (r : RowsOf). r.fault) c.rows.view_is) first
    ∙ one_fault layout releases given rows (subst (λ (l : List CsvRecord). AreRowsOf layout releases 0 0 l rows) is c.in_ok-rows.ensures)
