use Rattle.std.proofs.Common.{◌≡◌, ℕ, false, Option, Some, le-leb, length, refl}
use Rattle.std.proofs.lemmas.Bool.{lt-leb}
use Rattle.zic_piece_rows.proofs.Coming.{too_many_ends}
use Rattle.zic_columns.specs.Round.{may_have}
use Rattle.zic_layouts.specs.declared.layout.AtFault.{AtFault}
use Rattle.zic_layouts.specs.declared.layout.AtFault.TheVariants as at_fault
use Rattle.zic_layouts.specs.declared.layout.Records.{Records}
use Rattle.zic_layouts.specs.declared.layout.Records.TheVariants as by
use Rattle.zic_base.specs.declared.row_fault.RowKind.TheVariants as kinds
use Rattle.zic_piece_rows.specs.LayoutRows.{ending}
use Rattle.zic_convert.specs.code.Progress.{end_limit}
use Rattle.zic_convert.proofs.long.long_kind.Goals as goal

-- a record of more bytes than one may have where it ends the run
too_long_ends : (at : AtFault) (mode : Records) (most : Option ℕ) (len : ℕ) → may_have (end_limit at mode most) len ≡ false
    → (may_have most len ≡ false) × (ending at mode (Some kinds.RowTooLong) ≡ Some kinds.RowTooLong)
too_long_ends at_fault.End mode most len long = (long, refl)
too_long_ends at_fault.GoOn by.Csv most len long = (long, refl)
too_long_ends at_fault.GoOn by.Lines most len long = absurd (cc long)
too_long_ends at_fault.Reject by.Csv most len long = (long, refl)
too_long_ends at_fault.Reject by.Lines most len long = absurd (cc long)

pub returns-then-most-number : goal.returns-then-most-number
returns-then-most-number c = λ layout files given long. rw (lt-leb c.args.number c.args.most c.if-most-number.true) (too_many_ends layout.at_fault layout.records)

pub returns : goal.returns
returns c = λ layout files given long.
    let both = too_long_ends layout.at_fault layout.records layout.max_record (length given.own) long in
    rw (le-leb c.args.number c.args.most c.if-most-number.false, both.0) both.1
