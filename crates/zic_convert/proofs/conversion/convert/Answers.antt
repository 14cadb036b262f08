use Rattle.std.proofs.Common.{None, inl, inr}
use Rattle.zic_convert.proofs.Joining.{on_err, on_ok}
use Rattle.zic_convert.proofs.Sources.{at_files, source_converts, source_ends, source_refused}
use Rattle.zic_convert.proofs.conversion.convert.Goals as goal

pub returns-in-Err-clause-err : goal.returns-in-Err-clause-err
returns-in-Err-clause-err g c =
    source_refused c.plain_columns_convert_alike.ensures c.plain-layout.result c.plain-layout.ensures.rows c.plain-layout.ensures.header c.args.files.now c.args.plan.now.max_rows
    c.files_answer_once.ensures c.len.ensures.sound c.column_records_are_read.ensures (g.R.Read.remaining c.args.reader.now.inner) (g.W.Write.contents c.args.writer.now.inner)

pub returns-clause-ok : goal.returns-clause-ok
returns-clause-ok g c =
    let files = c.args.files.now in
    let most = c.args.plan.now.max_rows in
    let plain = c.plain-layout.ensures in
    on_ok c.convert_column.result _ _
    (λ n w. source_converts c.plain_columns_convert_alike.ensures c.plain-layout.result plain.rows plain.header files most (g.R.Read.remaining c.args.reader.now.inner)
    (g.W.Write.contents c.args.writer.now.inner) (g.W.Write.contents c.convert_column.new.writer.inner) None None n w)
    (at_files c.plain_columns_convert_alike.ensures c.plain-layout.result plain.rows plain.header files most c.files_answer_once.ensures c.len.ensures.sound c.column_records_are_read.ensures
    c.in-Ok.zones c.convert_column.new.zones c.in-Ok.ensures c.convert_column.result c.convert_column.ensures.grown _ c.convert_column.ensures.ok)

pub returns-clause-err : goal.returns-clause-err
returns-clause-err g c =
    on_err c.convert_column.result _ _
    (λ why ends. source_ends c.plain_columns_convert_alike.ensures c.plain-layout.result c.plain-layout.ensures.rows c.plain-layout.ensures.header c.args.files.now c.args.plan.now.max_rows
    c.files_answer_once.ensures c.len.ensures.sound c.column_records_are_read.ensures _ why _ _ c.in-Ok.ensures ends) c.convert_column.ensures.err

pub returns-clause-cause : goal.returns-clause-cause
returns-clause-cause g c =
    on_err c.convert_column.result _ _ (λ why cause. elim cause [
      | inl is ↦ is
      | inr failed ↦ absurd failed.1
    ]) c.convert_column.ensures.cause
