use Rattle.std.proofs.Common.{◌+◌, ◌≤◌, length}
use Rattle.zic_columns.specs.Own.{csv_records}
use Rattle.zic_piece_rows.specs.code.Piece.{AreSoFar}
use Rattle.zic_piece_rows.specs.code.Row.{by_both, files_of}
use Rattle.zic_piece_rows.proofs.row.Rows.add_piece.Given as goal

abbrev pub invariant-loop-splitter : goal.invariant-loop-splitter
invariant-loop-splitter l = record {
  bound : length (csv_records l.piece.layout.now.delimiter l.piece.bytes.now) ≤ length l.piece.bytes.now + 1;
  far : AreSoFar l.piece (by_both l.piece (files_of l.other)) l.self l.splitter;
}

abbrev pub decreases-loop-splitter : goal.decreases-loop-splitter
decreases-loop-splitter l = length l.splitter.left
