use Rattle.std.proofs.Common.{sym, ◌∙◌, arith, length}
use Rattle.std.proofs.lemmas.Bool.{eqb-false, eqb-true}
use Rattle.std.proofs.lemmas.List.{nil_from_length}
use Rattle.zic_columns.proofs.FirstFacts.{begins_after, first_after, no_record}
use Rattle.zic_columns.proofs.pieces.first_record.Goals as goal

pub returns-then-is_empty : goal.returns-then-is_empty
returns-then-is_empty c =
    let start = c.after_line_ends-rest in
    no_record c.args.delimiter.can c.args.bytes.now start.result.now start.ensures (nil_from_length start.result.now (eqb-true _ 0 (sym c.is_empty.ensures ∙ c.if-is_empty.true)))

pub record_len-requires : goal.record_len-requires
record_len-requires c =
    let start = c.after_line_ends-rest in
    begins_after c.args.bytes.now start.result.now start.ensures (omega (arith, eqb-false (length start.result.now) 0 (sym c.is_empty.ensures ∙ c.if-is_empty.false)))

pub returns : goal.returns
returns c =
    let start = c.after_line_ends-rest in
    first_after c.args.delimiter.can c.args.bytes.now start.result.now c.record_len.result start.ensures c.record_len.ensures
