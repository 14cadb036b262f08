use Rattle.std.proofs.Common.{rules, FitsSigned, w32, w64, get_or, pos, to_z-of_z}
use Rattle.pzic_files.specs.RowColumn.{AreFlagsOfRow, IsOffsetOfRow}
use Rattle.pzic_zones.proofs.Columns.{all-written, begun, cell-next}
use Rattle.pzic_files.proofs.row_column.write_offsets.Goals as goal

pub loop-i-init : goal.loop-i-init
loop-i-init c =
    let files = c.args.files.now in
    let zones = c.args.zones.now in
    let instants = c.args.instants.now in
    record {
      offsets = begun (IsOffsetOfRow files) zones instants c.args.offsets.now c.requires.zones c.requires.offsets;
      flags = begun (AreFlagsOfRow files) zones instants c.args.flags.now c.requires.zones c.requires.flags;
    }

pub loop-i-preserved : goal.loop-i-preserved
loop-i-preserved c =
    let l = c.loop-i in
    let files = c.args.files.now in
    let zones = c.args.zones.now in
    let instants = c.args.instants.now in
    let row = c.cells_of_row-row in
    let fits : FitsSigned w32 row.result.offset = search rules in
    let timely : FitsSigned w64 (get_or instants l.i (pos 0)) = search rules in
    let offset = simp to_z-of_z at row.ensures.offset in
    let flags = simp to_z-of_z at row.ensures.flags in
    rw (to_z-of_z fits) record {
      offsets = cell-next (IsOffsetOfRow files) zones instants _ l.i 0 (pos 0) row.result.offset c.requires.zones (search rules) offset l.invariant.offsets;
      flags = cell-next (AreFlagsOfRow files) zones instants _ l.i 0 (pos 0) row.result.flags c.requires.zones (search rules) flags l.invariant.flags;
    }

pub returns-clause-offsets : goal.returns-clause-offsets
returns-clause-offsets c =
    let l = c.loop-i in
    all-written (IsOffsetOfRow c.args.files.now) c.args.zones.now c.args.instants.now _ l.i c.requires.zones (search rules) l.invariant.offsets

pub returns-clause-flags : goal.returns-clause-flags
returns-clause-flags c =
    let l = c.loop-i in
    all-written (AreFlagsOfRow c.args.files.now) c.args.zones.now c.args.instants.now _ l.i c.requires.zones (search rules) l.invariant.flags
