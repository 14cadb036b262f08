use Rattle.std.proofs.Common.{◌∙◌, ◌∷◌, ◌++◌, [], ℕ, List, Some, ap, ap₂, refl, subst, sym}
use Rattle.zic_columns.specs.Lines.{open_record}
use Rattle.zic_columns.specs.Own.{CsvRecord}
use Rattle.zic_layouts.specs.Noted.{RowNote}
use Rattle.zic_piece_rows.specs.PieceRows.{AreRowsOf, RowsOf}
use Rattle.zic_piece_rows.specs.LayoutRows.{ended, faulty_text, if_rejected}
use Rattle.zic_convert.specs.code.Row.{unless_compared}
use Rattle.zic_convert.proofs.LineEnds.{open_ended}
use Rattle.zic_convert.proofs.OpenLines.{one_ends, one_faulty, open_text, same_rows}
use Rattle.zic_convert.proofs.opened.open_row.Goals as goal

pub returns-then-ends_run : goal.returns-then-ends_run
returns-then-ends_run c =
    let layout = c.args.layout.now in
    let releases = c.args.releases.now in
    let kind = c.open_kind-kind.result in
    let given : CsvRecord = open_record c.deref-own.result.now in
    let none = c.rows.view_is ∙ c.new-rows.ensures in
    rw (← c.deref-own.ensures.value)
    (subst (λ (r : RowsOf). AreRowsOf layout releases c.args.most c.args.number (given ∷ []) r) (sym (ap (λ (r : RowsOf). record r { fault = Some kind }) none))
    (one_ends layout releases c.args.most c.args.number given kind c.open_kind-kind.ensures (c.if-ends_run.ensures.ends refl)))

pub returns : goal.returns
returns c =
    let layout = c.args.layout.now in
    let releases = c.args.releases.now in
    let kind = c.open_kind-kind.result in
    let line = c.deref-own.result.now in
    let given : CsvRecord = open_record line in
    let is = c.open_kind-kind.ensures in
    let goes = c.if-ends_run.ensures.goes_on refl in
    let none = c.rows-2.view_is ∙ c.new-rows.ensures in
    let text = c.in_ok-push.ensures ∙ ap (λ (l : List ℕ). l ++ c.deref.result.now) (ap (λ (r : RowsOf). r.text) none) ∙ c.deref.ensures.value ∙ c.in_ok-text.ensures
    ∙ open_ended layout.line_end layout.at_fault releases.old line
    ∙ ap (λ (l : List ℕ). ended layout.line_end (unless_compared releases.old l)) (sym (open_text layout releases.zones c.args.most c.args.number kind line (is releases.zones) goes)) in
    let fault = ap (λ (r : RowsOf). r.fault) none in
    let one : RowNote = record { fault = record { row = c.args.number; kind = kind }; own = if_rejected layout.at_fault line } in
    let faults = c.in_ok-push-2.ensures.items ∙ ap₂ (λ (l : List RowNote) (n : RowNote). l ++ n ∷ []) (ap (λ (r : RowsOf). r.faults) none)
    (rw (← c.deref-own.ensures.value) at c.in_ok-note.ensures) in
    rw (← c.deref-own.ensures.value)
    (subst (λ (r : RowsOf). AreRowsOf layout releases c.args.most c.args.number (given ∷ []) r)
    (sym (same_rows c.push.new.self (ended layout.line_end (unless_compared releases.old (faulty_text layout kind given))) c.rows-2.inside.fault c.push-2.new.self.items (one ∷ []) text fault faults))
    (one_faulty layout releases c.args.most c.args.number given kind is goes))
