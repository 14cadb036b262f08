use Rattle.std.proofs.Common.{◌∙◌, ◌++◌, List, ap, arith, length, length-append, length-take-le, map, subst, take}
use Rattle.std.proofs.lemmas.List.{length-map}
use Rattle.zic_columns.specs.Own.{CsvRecord}
use Rattle.zic_columns.specs.Record.{record_at}
use Rattle.zic_columns.specs.declared.fields.Record.{Record}
use Rattle.zic_piece_rows.specs.code.Batch.{record_of}
use Rattle.zic_piece_rows.specs.code.Row.{by_both, files_of}
use Rattle.zic_piece_rows.specs.PieceRows.{AreRowsOf}
use Rattle.zic_piece_rows.proofs.row.Rows.add_records.Goals as goal

pub fill-requires-clause-split : goal.fill-requires-clause-split
fill-requires-clause-split c = rw (c.requires.split.delimiter_is, c.requires.split.piece_is, c.requires.split.wanted_is) at c.fill-count.ensures.each

pub add_all-requires-clause-fits : goal.add_all-requires-clause-fits
add_all-requires-clause-fits c =
    let fill = c.fill-count in
    let old = c.args.splitter.now in
    let records = fill.new.records in
    omega (
      arith,
      c.requires.fits,
      ap length fill.ensures.split,
      length-append (map (record_at old.delimiter old.piece) (take fill.result records)) fill.new.self.left,
      length-map (take fill.result records) (record_at old.delimiter old.piece),
      length-take-le fill.result records (omega (arith, fill.ensures.few, fill.ensures.long)),
    )

pub returns-clause-next : goal.returns-clause-next
returns-clause-next c =
    let fill = c.fill-count in
    let piece = c.args.piece.now in
    let releases = by_both piece (files_of c.args.other.now) in
    let records = fill.new.records in
    let added = c.in_ok-add_all.ensures in
    let same = λ (rs : List Record). (before : List CsvRecord) → AreRowsOf piece.layout.now releases piece.most piece.first before c.args.self.now
    → AreRowsOf piece.layout.now releases piece.most piece.first (before ++ map (record_of piece) (take fill.result rs)) c.add_all.new.self in
    record {
      next = map (record_of piece) (take fill.result records);
      parts = rw (c.requires.split.delimiter_is, c.requires.split.piece_is) at fill.ensures.split;
      long = length-map (take fill.result records) (record_of piece) ∙ length-take-le fill.result records (omega (arith, fill.ensures.few, fill.ensures.long));
      rows = subst same c.in_ok-fill.ensures.records added.rows;
      counted = added.count;
    }
