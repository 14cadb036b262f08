use Rattle.std.specs.List.{zip}
use Rattle.pzic_files.specs.RowColumn.{AreFlagsOfRow, IsOffsetOfRow}
use Rattle.pzic_zones.specs.code.Written.{AreCellsWritten}
use Rattle.pzic_files.proofs.row_column.write_offsets.Given as goal

abbrev pub invariant-loop-i : goal.invariant-loop-i
invariant-loop-i l = record {
  offsets : AreCellsWritten (IsOffsetOfRow l.files) (zip l.zones l.instants) l.offsets l.i;
  flags : AreCellsWritten (AreFlagsOfRow l.files) (zip l.zones l.instants) l.flags l.i;
}
