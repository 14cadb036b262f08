use Rattle.std.proofs.lemmas.Result.{err_from_is_err_and}
use Rattle.pzic_files.proofs.layout.zone_from.Goals as goal

pub returns-in_default-clause-err : goal.returns-in_default-clause-err
returns-in_default-clause-err c = c.in_default.ensures.cases.0

pub returns-in_err-from_str-clause-err : goal.returns-in_err-from_str-clause-err
returns-in_err-from_str-clause-err c =
    let p = err_from_is_err_and c.from_residual.result c.from_residual.ensures.1 in
    rw (p.1, p.2) tt
