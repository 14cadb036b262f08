use Rattle.std.proofs.Common.{FitsSigned, rules, w64}
use Rattle.std.proofs.lemmas.Int.{to_z-of_z}
use Rattle.std.proofs.lemmas.Result.{err_from_is_err_and}
use Rattle.zic_bulk.proofs.ReadingLemmas.{read_stop}
use Rattle.zic_bulk.proofs.show_next_command.line_of.Goals as goal

pub next_local-found-requires : goal.next_local-found-requires
next_local-found-requires c = c.instants_are_near.ensures.offsets c.args.bytes.now c.in_ok-zone.zone c.in_ok-zone.ensures.ok

pub line_for-requires : goal.line_for-requires
line_for-requires c = c.instants_are_near.ensures.offsets c.args.bytes.now c.in_ok-zone.zone c.in_ok-zone.ensures.ok

pub returns-in_err-zone-clause-err : goal.returns-in_err-zone-clause-err
returns-in_err-zone-clause-err c =
    let p = err_from_is_err_and c.from_residual.result c.from_residual.ensures.1 in
    rw (p.1, p.2) (read_stop c.args.bytes.now c.in_err-zone.field-0.0 c.in_err-zone.ensures.err)

pub returns-clause-ok : goal.returns-clause-ok
returns-clause-ok c =
    let fits : FitsSigned w64 c.args.after = c.ranges.after in
    let fits_until : FitsSigned w64 c.saturating_add.result = search rules in
    let until = simp to_z-of_z at c.saturating_add.ensures in
    record {
      content = c.in_ok-zone.zone;
      is_file = c.in_ok-zone.ensures.ok;
      found = c.next_local-found.result;
      is_found = rw until at (simp to_z-of_z at c.next_local-found.ensures);
      is_line = c.in_ok-line.ensures;
    }
