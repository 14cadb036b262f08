use Rattle.std.proofs.Common.{sym, ◌∙◌}
use Rattle.std.proofs.lemmas.Result.{err_from_is_err_and}
use Rattle.zic_lines.specs.code.Texts.{texts_of}
use Rattle.zic_lines.proofs.ZoneLines.{shown_decides, part_passes}
use Rattle.zic_lines.proofs.zone_line.zone_part.Goals as goal

pub returns-in_err-shown-clause-fault : goal.returns-in_err-shown-clause-fault
returns-in_err-shown-clause-fault c =
    let p = err_from_is_err_and c.from_residual-in_err-shown.result c.from_residual-in_err-shown.ensures.1 in
    rw (p.1, p.2) (shown_decides c.args.start.first c.args.stdoff.now c.args.rules.now c.args.format.now (texts_of c.args.until.now)
    (sym c.offset.ensures.value ∙ c.in-Some.is) c.in_ok-rules.ensures.ok ∙ c.in_err-shown.ensures.fault)

pub returns-clause-ok : goal.returns-clause-ok
returns-clause-ok c =
    part_passes c.args.start.first c.args.stdoff.now c.args.rules.now c.args.format.now (texts_of c.args.until.now)
    (sym c.offset.ensures.value ∙ c.in-Some.is) c.in_ok-rules.ensures.ok c.in_ok-shown.ensures.just c.in_ok-shown.ensures.until
