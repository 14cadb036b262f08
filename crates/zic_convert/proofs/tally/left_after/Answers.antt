use Rattle.std.proofs.Common.{◌≡◌, ◌<◌, ◌+◌, ◌++◌, ◌∙◌, List, Option, Some, length, length-append, take, ap, arith, subst, sym}
use Rattle.std.specs.Prelude.{IsSome}
use Rattle.std.proofs.lemmas.Result.{err_from_is_err_and}
use Rattle.zic_base.specs.declared.row_fault.RowKind.{RowKind}
use Rattle.zic_layouts.specs.Noted.{RowNote}
use Rattle.zic_convert.specs.Run.{IsOneTooMany}
use Rattle.zic_convert.specs.code.Pieces.{joined}
use Rattle.zic_piece_rows.specs.PieceRows.{RowsOf}
use Rattle.zic_convert.specs.code.Written.{IsLeft}
use Rattle.zic_piece_rows.proofs.MoreRows.{not_some}
use Rattle.zic_convert.proofs.TooMany.{too_many_of_more, too_many_then}
use Rattle.zic_convert.proofs.Writings.{front_faults, front_is_all, next_fault, next_faults}
use Rattle.zic_convert.proofs.tally.left_after.Goals as goal

pub returns-in_err-few-clause-err : goal.returns-in_err-few-clause-err
returns-in_err-few-clause-err c =
    let inv = c.loop-rows.invariant in
    let i = c.loop-rows.rows-index in
    let few = c.loop-rows.few in
    let pieces = c.args.pieces.now in
    let rows = c.rows-item.result in
    let limit = c.args.left in
    let front = (joined (take i pieces)).faults in
    let lt : i < length pieces = omega arith in
    let left : IsLeft limit front (Some few) = c.in-Some.is ∙ ap Some inv.few in
    let (more, rest) = front_faults pieces (i + 1) in
    let all : (joined pieces).faults ≡ (front ++ rows.faults) ++ more = rest ∙ ap (λ (l : List RowNote). l ++ more) (next_faults pieces i rows lt c.rows-item.is inv.goes_on) in
    let fault = c.in_err-few.field-0.0 in
    let (before, many) = c.in_err-few.ensures.err in
    let p = err_from_is_err_and c.from_residual.result c.from_residual.ensures.1 in
    rw (p.1, p.2) (
      front ++ before,
      subst (λ (l : List RowNote). IsOneTooMany limit l fault.row fault.kind (front ++ before)) (sym all)
          (too_many_of_more limit (front ++ rows.faults) more fault.row fault.kind (front ++ before) (too_many_then limit (Some few) front rows.faults fault.row fault.kind before left many)),
    )

pub returns-then-is_some-clause-ok : goal.returns-then-is_some-clause-ok
returns-then-is_some-clause-ok c =
    let inv = c.loop-rows.invariant in
    let i = c.loop-rows.rows-index in
    let pieces = c.args.pieces.now in
    let rows = c.rows-item.result in
    let front = (joined (take i pieces)).faults in
    let lt : i < length pieces = omega arith in
    let next = next_faults pieces i rows lt c.rows-item.is inv.goes_on in
    let has : IsSome c.rows.inside.fault = sym c.if-is_some.ensures in
    let fault = ap (λ (r : RowsOf). r.fault) c.rows.view_is ∙ sym (next_fault pieces i rows lt c.rows-item.is inv.goes_on) in
    let all = front_is_all pieces (i + 1) (subst (λ (o : Option RowKind). IsSome o) fault has) in
    c.in-Some.is ∙ ap Some (omega (arith, inv.few, c.in_ok-few.ensures.ok, ap (length {A = RowNote}) next, length-append front rows.faults, ap (λ (r : RowsOf). length r.faults) all))

pub loop-rows-preserved : goal.loop-rows-preserved
loop-rows-preserved c =
    let inv = c.loop-rows.invariant in
    let i = c.loop-rows.rows-index in
    let pieces = c.args.pieces.now in
    let rows = c.rows-item.result in
    let front = (joined (take i pieces)).faults in
    let lt : i < length pieces = omega arith in
    let next = next_faults pieces i rows lt c.rows-item.is inv.goes_on in
    let none = not_some c.rows.inside.fault (λ has. absurd (cc (sym has ∙ sym c.if-is_some.ensures))) in
    record {
      goes_on = next_fault pieces i rows lt c.rows-item.is inv.goes_on ∙ ap (λ (r : RowsOf). r.fault) (sym c.rows.view_is) ∙ none;
      few = omega (arith, inv.few, c.in_ok-few.ensures.ok, ap (length {A = RowNote}) next, length-append front rows.faults);
    }
