use Rattle.std.proofs.Common.{inl, inr, refl}
use Rattle.std.proofs.lemmas.Result.{err_from_is_err_and}
use Rattle.zic_bulk.proofs.convert_command.keyed_files.Goals as goal

pub returns-in_err-files-clause-err : goal.returns-in_err-files-clause-err
returns-in_err-files-clause-err g c =
    let p = err_from_is_err_and c.from_residual.result c.from_residual.ensures.1 in
    rw (p.1, p.2) (inl c.in_err-files.ensures.err)

pub returns-in_err-files-2-clause-err : goal.returns-in_err-files-2-clause-err
returns-in_err-files-2-clause-err g c =
    let p = err_from_is_err_and c.from_residual-in_err-files-2.result c.from_residual-in_err-files-2.ensures.1 in
    rw (p.1, p.2) (inr (refl, c.in_ok-files.files, c.in_ok-files.ensures.ok))
