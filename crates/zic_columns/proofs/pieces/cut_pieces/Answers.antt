use Rattle.std.proofs.Common.{arith, refl}
use Rattle.std.proofs.lemmas.List.{length-append}
use Rattle.zic_columns.specs.declared.pieces.PieceRange.{PieceRange}
use Rattle.zic_columns.proofs.Cuts.{cut_done, cut_more, cut_none, cut_to_end, has_none, has_record, rest_within}
use Rattle.zic_columns.proofs.pieces.cut_pieces.Goals as goal

pub loop-init : goal.loop-init
loop-init c = rw c.new-ranges.ensures.items (record { count = omega arith; cut = cut_none c.args.delimiter.can c.args.bytes.now c.args.size })

pub overflow_sub-start : goal.overflow_sub-start
overflow_sub-start c = rest_within c.args.delimiter.can c.args.bytes.now c.args.size c.loop.ranges.items c.loop.rest.now c.loop.invariant.cut

pub loop-preserved : goal.loop-preserved
loop-preserved c =
    let has = has_record c.args.delimiter.can c.loop.rest.now c.first_record.result c.first_record.ensures c.if-is_none.ensures in
    rw c.in_ok-push.ensures.items (record {
      count = omega (arith, c.loop.invariant.count, length-append {A = PieceRange});
      cut = cut_more c.args.delimiter.can c.args.bytes.now c.args.size c.loop.ranges.items c.loop.rest.now c.split_records.result.0.now c.split_records.result.1.now c.loop.lines_before c.requires c.loop.invariant.cut has c.split_records.ensures;
    })

pub overflow_sub-len : goal.overflow_sub-len
overflow_sub-len c = rest_within c.args.delimiter.can c.args.bytes.now c.args.size c.loop.ranges.items c.loop.rest.now c.loop.invariant.cut

pub returns-then-is_none : goal.returns-then-is_none
returns-then-is_none c = cut_to_end c.args.delimiter.can c.args.bytes.now c.args.size _ c.loop.rest.now c.loop.invariant.cut refl
    (omega (arith, c.loop.invariant.count, c.loop-test.true)) (has_none c.args.delimiter.can c.loop.rest.now c.first_record.result c.first_record.ensures c.if-is_none.ensures)

pub returns : goal.returns
returns c = cut_done c.args.delimiter.can c.args.bytes.now c.args.size _ c.loop.rest.now c.loop.invariant.cut refl
    (omega (arith, c.loop.invariant.count, c.loop.auto.counter-end, c.loop-test.false))
