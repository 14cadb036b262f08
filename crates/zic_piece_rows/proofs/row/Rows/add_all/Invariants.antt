use Rattle.std.proofs.Common.{◌≡◌, ◌+◌, ◌++◌, List, None, map, take}
use Rattle.zic_columns.specs.Own.{CsvRecord}
use Rattle.zic_piece_rows.specs.code.Batch.{record_of}
use Rattle.zic_piece_rows.specs.code.Row.{by_both, files_of}
use Rattle.zic_piece_rows.specs.PieceRows.{AreRowsOf}
use Rattle.zic_piece_rows.proofs.row.Rows.add_all.Given as goal

abbrev pub invariant-loop-place : goal.invariant-loop-place
invariant-loop-place l =
    let releases = by_both l.piece (files_of l.other) in
    record {
      none : l.self.fault ≡ None;
      count : l.self.count ≡ l.fn.self.count + l.place;
      rows : (before : List CsvRecord) → AreRowsOf l.piece.layout.now releases l.piece.most l.piece.first before l.fn.self
          → AreRowsOf l.piece.layout.now releases l.piece.most l.piece.first (before ++ map (record_of l.piece) (take l.place l.batch.records)) l.self;
    }
