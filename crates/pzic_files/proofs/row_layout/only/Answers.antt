use Rattle.std.proofs.Common.{◌≡◌, List, map}
use Rattle.std.proofs.lemmas.Result.{err_from_is_err_and}
use Rattle.zic_layouts.specs.declared.row_field.RowField.{RowField}
use Rattle.zic_layouts.specs.declared.row_field.RowFields.{RowFields}
use Rattle.pzic_files.specs.Layout.{AreListed}
use Rattle.pzic_files.specs.RowLayout.{field_number}
use Rattle.pzic_files.proofs.Layouts.{refused_for, unlisted}
use Rattle.pzic_files.proofs.row_layout.only.Goals as goal

pub returns-in_err-fields-clause-err : goal.returns-in_err-fields-clause-err
returns-in_err-fields-clause-err c =
    let p = err_from_is_err_and c.from_residual.result c.from_residual.ensures.1 in
    rw (p.1, p.2) (refused_for ((fields : List RowField) → c.args.numbers.now ≡ map field_number fields → ⊥) ((fields : RowFields) → AreListed c.args.numbers.now fields → ⊥)
    c.in_err-fields.field-0.0 c.in_err-fields.ensures.err (unlisted c.args.numbers.now))
