use Rattle.std.specs.List.{zip}
use Rattle.pzic_files.specs.RowColumn.{IsAbbreviationOfRow}
use Rattle.pzic_zones.specs.code.Written.{AreCellsWritten}
use Rattle.pzic_files.proofs.row_column.write_abbreviations.Given as goal

abbrev pub invariant-loop-i : goal.invariant-loop-i
invariant-loop-i l = AreCellsWritten (IsAbbreviationOfRow l.files) (zip l.zones l.instants) l.abbreviations l.i
