use Rattle.std.proofs.Common.{◌∷◌, [], inr, arith}
use Rattle.zic_columns.specs.Lines.{open_record}
use Rattle.zic_columns.specs.Own.{CsvRecord}
use Rattle.zic_convert.specs.By.{by_of}
use Rattle.zic_convert.specs.code.Pieces.{joined}
use Rattle.zic_convert.proofs.Halts.{few}
use Rattle.zic_convert.proofs.OpenLines.{alone, alone_ends, alone_stops}
use Rattle.zic_convert.proofs.TooMany.{left_few}
use Rattle.zic_convert.proofs.opened.write_open_line.Goals as goal

pub write_rows-requires : goal.write_rows-requires
write_rows-requires g c =
    let layout = c.args.by.now.layout.now in
    let most = c.max_rows-most.result in
    let given : CsvRecord = open_record c.args.line.now.own.items in
    let releases = c.args.releases.now in
    let all = alone layout releases most c.args.number given c.in-Ok.row c.in-Ok.ensures in
    omega (arith, few layout releases most c.args.number (given ∷ []) (joined (c.in-Ok.row ∷ [])) all, c.requires)

pub returns-in-Ok-left_after-clause-stop : goal.returns-in-Ok-left_after-clause-stop
returns-in-Ok-left_after-clause-stop g c =
    let layout = c.args.by.now.layout.now in
    let releases = c.args.releases.now in
    let most = c.args.by.now.plan.now.max_rows in
    let given : CsvRecord = open_record c.args.line.now.own.items in
    let row = c.in-Ok.row in
    let are = rw c.max_rows-most.ensures.rows at c.in-Ok.ensures in
    inr (
      joined (row ∷ []),
      alone layout releases most c.args.number given row are,
      alone_ends g.W.Write.contents c.args.writer.now c.write_rows.new.writer (g.L.RowLog.noted c.args.log.now) (g.L.RowLog.noted c.write_rows.new.log) (by_of layout releases most c.args.left) c.args.number given row are
          c.in-Err-write_rows.stop (left_few c.args.left c.in-Ok-left_after.left (joined (row ∷ [])).faults c.in-Ok-left_after.ensures.ok) c.in-Err-write_rows.ensures.err,
    )

pub returns-clause-stop : goal.returns-clause-stop
returns-clause-stop g c =
    let layout = c.args.by.now.layout.now in
    let releases = c.args.releases.now in
    let most = c.args.by.now.plan.now.max_rows in
    let given : CsvRecord = open_record c.args.line.now.own.items in
    let row = c.in-Ok.row in
    let fault = c.in-Err.fault in
    let are = rw c.max_rows-most.ensures.rows at c.in-Ok.ensures in
    let (before, many) = c.in-Err.ensures.err in
    let log = g.L.RowLog.noted c.args.log.now in
    alone_stops g.W.Write.contents c.args.writer.now c.stop_at.new.writer log log (by_of layout releases most c.args.left) c.args.number given row are fault.row fault.kind before many c.stop_at.result c.stop_at.ensures
