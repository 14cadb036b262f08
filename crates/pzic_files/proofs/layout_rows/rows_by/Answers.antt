use Rattle.std.proofs.Common.{◌≡◌, rules, FitsSigned, None, subst, w32, to_z-of_z}
use Rattle.std.specs.Prelude.{MatchOption}
use Rattle.pzic_zones.specs.Handle.{files_in, held_in}
use Rattle.pzic_zones.specs.declared.status.TheConstants.{NO_HANDLE}
use Rattle.pzic_files.specs.LayoutRows.{IsConvertedBy}
use Rattle.pzic_files.specs.declared.row_layout.RowLayout.{RowLayout}
use Rattle.pzic_files.proofs.layout_rows.rows_by.Goals as goal

pub returns-clause-gives : goal.returns-clause-gives
returns-clause-gives c =
    let fits : FitsSigned w32 c.rows_with.result = search rules in
    rw (to_z-of_z fits)
    (subst
    (λ (layout : RowLayout). MatchOption (files_in c.args.files.now) ((c.rows_with.result ≡ NO_HANDLE) × (held_in c.rows_with.new.rows ≡ None))
    (λ all. IsConvertedBy all layout c.args.name.now c.args.column.now c.rows_with.result (held_in c.rows_with.new.rows)))
    c.with_usual_rows.ensures c.rows_with.ensures.gives)
