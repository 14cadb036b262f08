use Rattle.std.proofs.Common.{◌≡◌, ◌++◌, ◌+◌, ◌<◌, ℕ, List, [], Option, None, Some, length, take, get_or, refl, sym, ap, subst, ◌∙◌, arith, rules}
use Rattle.std.proofs.lemmas.List.{append-nil, take_all}
use Rattle.std.proofs.lemmas.Result.{err_from_is_err_and}
use Rattle.csv.proofs.WriteFacts.{appends-none}
use Rattle.zic_counted.specs.Written.{FailsWithin}
use Rattle.zic_layouts.specs.Noted.{RowNote}
use Rattle.zic_base.specs.declared.row_fault.RowKind.{RowKind}
use Rattle.zic_convert.specs.Run.{Notes}
use Rattle.zic_convert.specs.code.Pieces.{joined}
use Rattle.zic_piece_rows.specs.PieceRows.{RowsOf}
use Rattle.zic_convert.specs.code.Written.{Wrote}
use Rattle.zic_convert.proofs.Bytes.{fails_after, wrote_both}
use Rattle.zic_convert.proofs.Logs.{notes_more, notes_none}
use Rattle.zic_convert.proofs.Stops.{stops_at}
use Rattle.zic_convert.proofs.Writings.{front_ends, front_few, front_more, next_count, next_fault, next_faults, next_text}
use Rattle.zic_convert.proofs.output.write_rows.Goals as goal

-- no fault is there
none_of : (o : Option RowKind) → ((kind : RowKind) → o ≡ Some kind → ⊥) → o ≡ None
none_of None h = refl
none_of (Some kind) h = absurd (h kind refl)

pub loop-rows-init : goal.loop-rows-init
loop-rows-init g c = record {
  goes_on = refl;
  count = refl;
  wrote = (appends-none (g.W.Write.contents c.args.writer.now.inner), refl);
  began = refl;
  noted = notes_none (g.L.RowLog.noted c.args.log.now);
}

pub returns-in_err-write_all-clause-err : goal.returns-in_err-write_all-clause-err
returns-in_err-write_all-clause-err g c =
    let contents = g.W.Write.contents in
    let inv = c.loop-rows.invariant in
    let i = c.loop-rows.rows-index in
    let pieces = c.args.pieces.now in
    let rows = c.rows-item.result in
    let front = joined (take i pieces) in
    let (more, next) = front_more pieces (i + 1) in
    let row_record = next ∙ ap (λ (l : List ℕ). l ++ more) (next_text pieces i rows (omega arith) c.rows-item.is inv.goes_on) in
    let failed = c.in_err-write_all.ensures.err in
    let text = c.bytes.ensures ∙ ap (λ (r : RowsOf). r.text) c.rows.view_is in
    let fails = subst (λ (l : List ℕ). FailsWithin contents c.loop-rows.writer c.write_all.new.writer l) text failed.1 in
    let p = err_from_is_err_and c.from_residual.result c.from_residual.ensures.1 in
    rw (p.1, p.2, failed.0) (i, fails_after contents c.args.writer.now c.loop-rows.writer c.write_all.new.writer front.text rows.text more (joined pieces).text row_record inv.wrote fails, inv.noted)

pub returns-in-Some-clause-err : goal.returns-in-Some-clause-err
returns-in-Some-clause-err g c =
    let contents = g.W.Write.contents in
    let inv = c.loop-rows.invariant in
    let i = c.loop-rows.rows-index in
    let pieces = c.args.pieces.now in
    let rows = c.rows-item.result in
    let front = joined (take i pieces) in
    let then = joined (take (i + 1) pieces) in
    let lt : i < length pieces = omega arith in
    let some = next_fault pieces i rows lt c.rows-item.is inv.goes_on ∙ ap (λ (r : RowsOf). r.fault) (sym c.rows.view_is) ∙ c.in-Some.is in
    let text = c.bytes.ensures ∙ ap (λ (r : RowsOf). r.text) c.rows.view_is in
    let wrote = subst (λ (l : List ℕ). Wrote contents c.loop-rows.writer c.write_all.new.writer l) text c.in_ok-write_all.ensures.ok in
    let both = subst (λ (l : List ℕ). Wrote contents c.args.writer.now c.write_all.new.writer l) (sym (next_text pieces i rows lt c.rows-item.is inv.goes_on))
    (wrote_both contents c.args.writer.now c.loop-rows.writer c.write_all.new.writer front.text rows.text inv.wrote wrote) in
    let faults = c.deref.ensures.value ∙ ap (λ (r : RowsOf). r.faults) c.rows.view_is in
    let log = g.L.RowLog.noted c.args.log.now in
    let now = g.L.RowLog.noted c.tally_all.new.log in
    let same_notes = rw (sym c.tally_all.ensures.noted) at c.note_all.ensures.notes in
    let noted = subst (λ (l : List RowNote). Notes log now l) (sym (next_faults pieces i rows lt c.rows-item.is inv.goes_on))
    (notes_more log (g.L.RowLog.noted c.loop-rows.log) now front.faults rows.faults inv.noted (subst (λ (l : List RowNote). Notes (g.L.RowLog.noted c.loop-rows.log) now l) faults same_notes)) in
    let count : c.loop-rows.count + c.rows.inside.count ≡ then.count = omega (arith, inv.count, ap (λ (r : RowsOf). r.count) c.rows.view_is, next_count pieces i rows lt c.rows-item.is inv.goes_on) in
    let all = front_ends pieces (i + 1) c.in-Some.kind some in
    stops_at contents c.args.writer.now c.write_all.new.writer c.stop_at.new.writer log now pieces (i + 1) all c.args.first c.in-Some.kind some both noted c.stop_at.result
    (rw count at c.stop_at.ensures)

pub returns-in_err-flush-clause-err : goal.returns-in_err-flush-clause-err
returns-in_err-flush-clause-err g c =
    let contents = g.W.Write.contents in
    let inv = c.loop-rows.invariant in
    let i = c.loop-rows.rows-index in
    let pieces = c.args.pieces.now in
    let front = joined (take i pieces) in
    let failed = c.in_err-flush.ensures.err in
    let (more, next) = front_more pieces i in
    let row_record = next ∙ ap (λ (l : List ℕ). l ++ more) (sym (append-nil front.text)) in
    let p = err_from_is_err_and c.from_residual-in_err-flush.result c.from_residual-in_err-flush.ensures.1 in
    rw (p.1, p.2, failed.0) (i, fails_after contents c.args.writer.now c.loop-rows.writer c.flush.new.writer front.text [] more (joined pieces).text row_record inv.wrote failed.1, inv.noted)

pub returns-clause-ok : goal.returns-clause-ok
returns-clause-ok g c =
    let contents = g.W.Write.contents in
    let inv = c.loop-rows.invariant in
    let i = c.loop-rows.rows-index in
    let pieces = c.args.pieces.now in
    let all : take i pieces ≡ pieces = take_all i pieces (omega (arith, c.loop-rows-test.false, c.loop-rows.auto.rows-index-end)) in
    let same = ap joined all in
    let wrote = subst (λ (l : List ℕ). Wrote contents c.args.writer.now c.flush.new.writer l) (append-nil (joined (take i pieces)).text)
    (wrote_both contents c.args.writer.now c.loop-rows.writer c.flush.new.writer (joined (take i pieces)).text [] inv.wrote c.in_ok-flush.ensures.ok) in (
      ap (λ (r : RowsOf). r.fault) (sym same) ∙ inv.goes_on,
      inv.count ∙ ap (λ (r : RowsOf). r.count) same,
      subst (λ (l : List ℕ). Wrote contents c.args.writer.now c.flush.new.writer l) (ap (λ (r : RowsOf). r.text) same) wrote,
      rw c.flush-2.ensures.noted (subst (λ (l : List RowNote). Notes (g.L.RowLog.noted c.args.log.now) (g.L.RowLog.noted c.loop-rows.log) l) (ap (λ (r : RowsOf). r.faults) same) inv.noted),
    )

pub loop-rows-preserved : goal.loop-rows-preserved
loop-rows-preserved g c =
    let contents = g.W.Write.contents in
    let inv = c.loop-rows.invariant in
    let i = c.loop-rows.rows-index in
    let pieces = c.args.pieces.now in
    let rows = c.rows-item.result in
    let front = joined (take i pieces) in
    let lt : i < length pieces = omega arith in
    let none = ap (λ (r : RowsOf). r.fault) (sym c.rows.view_is) ∙ none_of c.rows.inside.fault (λ kind e. search rules) in
    let text = c.bytes.ensures ∙ ap (λ (r : RowsOf). r.text) c.rows.view_is in
    let wrote = subst (λ (l : List ℕ). Wrote contents c.loop-rows.writer c.write_all.new.writer l) text c.in_ok-write_all.ensures.ok in
    let count = ap (λ (r : RowsOf). r.count) c.rows.view_is in
    let faults = c.deref.ensures.value ∙ ap (λ (r : RowsOf). r.faults) c.rows.view_is in
    let log = g.L.RowLog.noted c.args.log.now in
    let now = g.L.RowLog.noted c.tally_all.new.log in
    let same_notes = rw (sym c.tally_all.ensures.noted) at c.note_all.ensures.notes in
    record {
      goes_on = next_fault pieces i rows lt c.rows-item.is inv.goes_on ∙ none;
      count = omega (arith, inv.count, count, next_count pieces i rows lt c.rows-item.is inv.goes_on);
      wrote = subst (λ (l : List ℕ). Wrote contents c.args.writer.now c.write_all.new.writer l) (sym (next_text pieces i rows lt c.rows-item.is inv.goes_on))
          (wrote_both contents c.args.writer.now c.loop-rows.writer c.write_all.new.writer front.text rows.text inv.wrote wrote);
      began = c.tally_all.ensures.began ∙ c.note_all.ensures.began ∙ inv.began;
      noted = subst (λ (l : List RowNote). Notes log now l) (sym (next_faults pieces i rows lt c.rows-item.is inv.goes_on))
          (notes_more log (g.L.RowLog.noted c.loop-rows.log) now front.faults rows.faults inv.noted (subst (λ (l : List RowNote). Notes (g.L.RowLog.noted c.loop-rows.log) now l) faults same_notes));
    }

-- all rows are few enough to count
few_more : (pieces : List RowsOf) (i count first : ℕ) (rows : RowsOf) → i < length pieces → rows ≡ get_or pieces i rows → (joined (take i pieces)).fault ≡ None → count ≡ (joined (take i pieces)).count
    → first + (joined pieces).count < 18446744073709551616 → first + (count + rows.count) < 18446744073709551616
few_more pieces i count first rows lt is goes_on same fits = omega (arith, same, next_count pieces i rows lt is goes_on, front_few pieces (i + 1), fits)

pub overflow_add-count : goal.overflow_add-count
overflow_add-count g c =
    let inv = c.loop-rows.invariant in
    let few = few_more c.args.pieces.now c.loop-rows.rows-index c.loop-rows.count c.args.first c.rows-item.result (omega arith) c.rows-item.is inv.goes_on inv.count c.requires in
    let fits : c.loop-rows.count + c.rows.inside.count < 18446744073709551616 = omega (arith, few, ap (λ (r : RowsOf). r.count) c.rows.view_is) in
    search (rules, fits)

pub overflow_add-first : goal.overflow_add-first
overflow_add-first g c =
    let inv = c.loop-rows.invariant in
    let few = few_more c.args.pieces.now c.loop-rows.rows-index c.loop-rows.count c.args.first c.rows-item.result (omega arith) c.rows-item.is inv.goes_on inv.count c.requires in
    let fits : c.args.first + (c.loop-rows.count + c.rows.inside.count) < 18446744073709551616 = omega (arith, few, ap (λ (r : RowsOf). r.count) c.rows.view_is) in
    search (rules, fits)
