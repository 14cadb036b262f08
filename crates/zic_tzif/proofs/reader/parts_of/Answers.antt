use Rattle.std.proofs.Common.{sym, ap, ◌∙◌}
use Rattle.std.proofs.lemmas.Result.{err_from_is_err_and}
use Rattle.zic_base.specs.Check.{first_failed}
use Rattle.zic_tzif.proofs.ReadFiles.{fails_first, fails_second, fails_third, fails_footer, all_pass, block_same}
use Rattle.zic_tzif.proofs.reader.parts_of.Goals as goal

pub returns-in_err-first : goal.returns-in_err-first
returns-in_err-first c =
    let p = err_from_is_err_and c.from_residual.result c.from_residual.ensures.1 in
    rw (p.1, p.2) (fails_first c.args.octets.now c.in_err-first.field-0.0 c.in_err-first.ensures)

pub returns-in_err-block : goal.returns-in_err-block
returns-in_err-block c =
    let p = err_from_is_err_and c.from_residual-in_err-block.result c.from_residual-in_err-block.ensures.1 in
    rw (p.1, p.2) (fails_second c.args.octets.now c.in_err-block.field-0.0 c.in_ok-first.ensures.0 c.in_err-block.ensures)

pub returns-in_err-check : goal.returns-in_err-check
returns-in_err-check c =
    let p = err_from_is_err_and c.from_residual-in_err-check.result c.from_residual-in_err-check.ensures.1 in
    let same = block_same c.args.octets.now c.in_ok-block.block c.in_ok-block.ensures.1.0 in
    rw (p.1, p.2) (fails_third c.args.octets.now c.in_err-check.field-0.0 c.in_ok-first.ensures.0 c.in_ok-block.ensures.0 (sym (ap first_failed same) ∙ c.in_err-check.ensures))

pub returns-in_err-text : goal.returns-in_err-text
returns-in_err-text c =
    let p = err_from_is_err_and c.from_residual-in_err-text.result c.from_residual-in_err-text.ensures.1 in
    let same = block_same c.args.octets.now c.in_ok-block.block c.in_ok-block.ensures.1.0 in
    rw (p.1, p.2) (fails_footer c.args.octets.now c.in_err-text.field-0.0 c.in_ok-first.ensures.0 c.in_ok-block.ensures.0 (sym (ap first_failed same) ∙ c.in_ok-check.ensures.0) c.in_err-text.ensures)

pub returns : goal.returns
returns c =
    let same = block_same c.args.octets.now c.in_ok-block.block c.in_ok-block.ensures.1.0 in (
      all_pass c.args.octets.now c.in_ok-first.ensures.0 c.in_ok-block.ensures.0 (sym (ap first_failed same) ∙ c.in_ok-check.ensures.0) c.in_ok-text.ensures.0,
      record { version = c.in_ok-first.ensures.1.version; known = c.in_ok-first.ensures.1.known; block = c.in_ok-block.ensures.1; passes = c.in_ok-check.ensures.0; text = c.in_ok-text.ensures.1 },
    )

pub second_part-requires-clause-place : goal.second_part-requires-clause-place
second_part-requires-clause-place c = c.in_ok-first.ensures.1.second_header

pub second_part-requires-clause-inside : goal.second_part-requires-clause-inside
second_part-requires-clause-inside c = c.in_ok-first.ensures.1.inside

pub footer_text-requires : goal.footer_text-requires
footer_text-requires c = c.in_ok-block.ensures.1.0.end
