use Rattle.std.proofs.Common.{◌≡◌, [], arith}
use Rattle.zic_layouts.specs.declared.row_field.RowFields.{RowFields}
use Rattle.pzic_files.specs.Layout.{AreFields, AreListed}
use Rattle.pzic_files.proofs.Layouts.{no_style, refused_if, unfit}
use Rattle.pzic_files.proofs.row_layout.row_fields.Goals as goal

pub returns-in-None-clause-err : goal.returns-in-None-clause-err
returns-in-None-clause-err c = no_style c.args.style c.args.numbers.now c.in-None.ensures

pub returns-in-Some-Fields-clause-err : goal.returns-in-Some-Fields-clause-err
returns-in-Some-Fields-clause-err c =
    let some : c.args.numbers.now ≡ [] → ⊥ = λ empty. grind (arith, empty, c.is_empty.ensures, c.if-is_empty.false) in
    refused_if c.only.result ((fields : RowFields) → AreListed c.args.numbers.now fields → ⊥) ((fields : RowFields) → AreFields c.args.style c.args.numbers.now fields → ⊥)
    c.only.ensures.err (unfit c.args.style c.args.numbers.now some)
