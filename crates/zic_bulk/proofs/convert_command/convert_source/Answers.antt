use Rattle.std.proofs.Common.{inl, inr, refl}
use Rattle.std.proofs.lemmas.Result.{err_from_is_err_and}
use Rattle.zic_convert.specs.Run.{run_of}
use Rattle.zic_convert.proofs.Joining.{on_err}
use Rattle.zic_bulk.proofs.SourceLemmas.{all_by_source, fails_after_texts, keyed_no_list}
use Rattle.zic_bulk.proofs.convert_command.convert_source.Goals as goal

pub returns-in_err-files-clause-err : goal.returns-in_err-files-clause-err
returns-in_err-files-clause-err g c =
    let p = err_from_is_err_and c.from_residual.result c.from_residual.ensures.1 in
    rw (p.1, p.2) (elim c.in_err-files.ensures.err [
      | inl none ↦ inl (record { unread = refl; unwritten = refl; unnoted = refl }, none)
      | inr (memory, files, of) ↦ inr (record { files = files; are_files = of; by_files = inl (record { unread = refl; unwritten = refl; unnoted = refl }, inl memory) })
    ])

pub returns-in_err-zones-clause-err : goal.returns-in_err-zones-clause-err
returns-in_err-zones-clause-err g c =
    let p = err_from_is_err_and c.from_residual-in_err-zones.result c.from_residual-in_err-zones.ensures.1 in
    rw (p.1, p.2) (inr (record {
      files = c.in_ok-files.files;
      are_files = c.in_ok-files.ensures.ok;
      by_files = inl (record { unread = refl; unwritten = refl; unnoted = refl }, inl refl);
    }))

pub returns-clause-ok : goal.returns-clause-ok
returns-clause-ok g c =
    let run = run_of g.R.Read.remaining g.W.Write.contents g.L.RowLog.noted c.args.reader.now c.convert.new.reader c.args.writer.now c.convert.new.writer c.args.log.now c.convert.new.log in
    all_by_source c.in_ok-files.files c.in_ok-files.ensures.sound c.args.conversion.now.plan.now c.args.conversion.now.max_faults c.args.conversion.now.layout.now run c.in_ok-zones.zones c.convert.new.zones c.in_ok-zones.ensures _
    c.in_ok-files.ensures.ok c.convert.result c.convert.ensures.grown c.convert.ensures.ok

pub returns-clause-err : goal.returns-clause-err
returns-clause-err g c =
    let run = run_of g.R.Read.remaining g.W.Write.contents g.L.RowLog.noted c.args.reader.now c.convert.new.reader c.args.writer.now c.convert.new.writer c.args.log.now c.convert.new.log in
    on_err c.convert.result _ _ (λ e after. inr after)
    (fails_after_texts c.in_ok-files.files c.in_ok-files.ensures.sound c.args.conversion.now.plan.now c.args.conversion.now.max_faults c.args.conversion.now.layout.now run c.in_ok-zones.zones c.convert.new.zones c.in_ok-zones.ensures _
    c.in_ok-files.ensures.ok c.convert.result c.convert.ensures.err)

pub returns-in_err-files-clause-log : goal.returns-in_err-files-clause-log
returns-in_err-files-clause-log g c =
    let p = err_from_is_err_and c.from_residual.result c.from_residual.ensures.1 in
    rw (p.1, p.2) (λ list. absurd (keyed_no_list _ c.in_err-files.field-0.0 c.in_err-files.ensures.err (cc list)))
