use Rattle.std.proofs.Common.{FitsSigned, rules, w64}
use Rattle.std.proofs.lemmas.Int.{to_z-of_z}
use Rattle.std.proofs.lemmas.Result.{err_from_is_err_and}
use Rattle.zic_bulk.proofs.ReadingLemmas.{read_stop}
use Rattle.zic_bulk.proofs.show_local_command.lines_of.Goals as goal

pub instants-found-requires-clause-offsets : goal.instants-found-requires-clause-offsets
instants-found-requires-clause-offsets c = c.instants_are_near.ensures.offsets c.args.bytes.now c.in_ok-zone.zone c.in_ok-zone.ensures.ok

pub lines_for-requires-clause-offsets : goal.lines_for-requires-clause-offsets
lines_for-requires-clause-offsets c = c.instants_are_near.ensures.offsets c.args.bytes.now c.in_ok-zone.zone c.in_ok-zone.ensures.ok

pub returns-in_err-zone-clause-err : goal.returns-in_err-zone-clause-err
returns-in_err-zone-clause-err c =
    let p = err_from_is_err_and c.from_residual.result c.from_residual.ensures.1 in
    rw (p.1, p.2) (read_stop c.args.bytes.now c.in_err-zone.field-0.0 c.in_err-zone.ensures.err)

pub returns-clause-ok : goal.returns-clause-ok
returns-clause-ok c =
    let fits : FitsSigned w64 c.seconds.result = search rules in
    record {
      content = c.in_ok-zone.zone;
      is_file = c.in_ok-zone.ensures.ok;
      found = c.instants-found.result;
      is_found = rw c.seconds.ensures.value at (simp to_z-of_z at c.instants-found.ensures);
      are_lines = c.in_ok-lines.ensures;
    }
