use Rattle.std.proofs.lemmas.Result.{err_from_is_err_and}
use Rattle.zic_rules.proofs.Outcomes.{if_ok_map}
use Rattle.zic_source.specs.Texts.{texts_of}
use Rattle.zic_compile.specs.Build.{AreFilesOfTexts}
use Rattle.zic_compile.specs.Files.{AreFilesOf}
use Rattle.zic_compile.proofs.Stops.{reading_stop, images_stops}
use Rattle.zic_compile.proofs.builder.build.Goals as goal

pub returns-in_err-source-clause-err : goal.returns-in_err-source-clause-err
returns-in_err-source-clause-err g c =
    let p = err_from_is_err_and c.from_residual.result c.from_residual.ensures.1 in
    rw (p.1, p.2) (reading_stop (texts_of c.args.texts.now) c.in_err-source.field-0.0 c.in_err-source.ensures.first c.in_err-source.ensures.memory)

pub returns-clause-ok : goal.returns-clause-ok
returns-clause-ok g c =
    let source = c.in_ok-source.source in
    let texts = texts_of c.args.texts.now in
    if_ok_map c.files_by-files.result (AreFilesOf source) (AreFilesOfTexts texts)
    (λ files are. record { source = source; is_source = c.in_ok-source.ensures.found; are_files = are }) c.files_by-files.ensures.ok

pub returns-clause-err : goal.returns-clause-err
returns-clause-err g c =
    images_stops (texts_of c.args.texts.now) c.in_ok-source.source c.in_ok-source.ensures.found c.files_by-files.result c.files_by-files.ensures.err
