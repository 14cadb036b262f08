use Rattle.zic_convert.proofs.InMemory.{plain_in_memory}
use Rattle.zic_convert.proofs.column.rows_of_column.Goals as goal

pub returns-clause-rows : goal.returns-clause-rows
returns-clause-rows c =
    let rows = c.in_ok-rows.rows in
    let plain = c.plain-layout in
    rw c.kind_of.ensures
    (plain_in_memory c.column_records_are_read.ensures c.records_are_one.ensures c.plain_columns_convert_alike.ensures plain.result plain.ensures.rows plain.ensures.header c.args.files.now c.args.max_rows c.args.column.now
    rows (rw c.in-Some.ensures.plan at c.in_ok-rows.ensures.rows)).0

pub returns-clause-few : goal.returns-clause-few
returns-clause-few c =
    let rows = c.in_ok-rows.rows in
    let plain = c.plain-layout in
    (plain_in_memory c.column_records_are_read.ensures c.records_are_one.ensures c.plain_columns_convert_alike.ensures plain.result plain.ensures.rows plain.ensures.header c.args.files.now c.args.max_rows c.args.column.now
    rows (rw c.in-Some.ensures.plan at c.in_ok-rows.ensures.rows)).1
