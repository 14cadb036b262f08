use Rattle.std.proofs.Common.{FitsSigned, w64, rules}
use Rattle.std.proofs.lemmas.Int.{to_z-of_z}
use Rattle.std.proofs.lemmas.Result.{err_from_is_err_and}
use Rattle.zic_tzif.specs.Answer.{answered}
use Rattle.zic_dump.proofs.OffsetLemmas.{have_offsets}
use Rattle.zic_bulk.proofs.ReadingLemmas.{read_stop}
use Rattle.zic_bulk.proofs.show_command.line_of.Goals as goal

pub answer_line-requires : goal.answer_line-requires
answer_line-requires c = have_offsets c.args.bytes.now c.in_ok-zone.zone c.in_ok-zone.ensures.ok _ (answered c.at-answer.result) c.at-answer.ensures

pub returns-clause-ok : goal.returns-clause-ok
returns-clause-ok c =
    let fits : FitsSigned w64 c.args.instant = c.ranges.instant in
    record {
      content = c.in_ok-zone.zone;
      is_file = c.in_ok-zone.ensures.ok;
      answer = answered c.at-answer.result;
      answers = simp to_z-of_z at c.at-answer.ensures;
      is_line = c.in_ok-line.ensures;
    }

pub returns-in_err-zone-clause-err : goal.returns-in_err-zone-clause-err
returns-in_err-zone-clause-err c =
    let p = err_from_is_err_and c.from_residual.result c.from_residual.ensures.1 in
    rw (p.1, p.2) (read_stop c.args.bytes.now c.in_err-zone.field-0.0 c.in_err-zone.ensures.err)

pub returns-clause-err : goal.returns-clause-err
returns-clause-err c = search rules
