use Rattle.std.proofs.Common.{rules, FitsSigned, w64, get_or, pos, to_z-of_z}
use Rattle.pzic_files.specs.RowColumn.{IsAbbreviationOfRow}
use Rattle.pzic_zones.proofs.Columns.{all-written, begun, cell-next}
use Rattle.pzic_files.proofs.row_column.write_abbreviations.Goals as goal

pub loop-i-init : goal.loop-i-init
loop-i-init c = begun (IsAbbreviationOfRow c.args.files.now) c.args.zones.now c.args.instants.now c.args.abbreviations.now c.requires.zones c.requires.abbreviations

pub loop-i-preserved : goal.loop-i-preserved
loop-i-preserved c =
    let l = c.loop-i in
    let instants = c.args.instants.now in
    let timely : FitsSigned w64 (get_or instants l.i (pos 0)) = search rules in
    let of_row = simp to_z-of_z at c.abbreviation_of_row.ensures in
    cell-next (IsAbbreviationOfRow c.args.files.now) c.args.zones.now instants _ l.i 0 (pos 0) c.abbreviation_of_row.result c.requires.zones (search rules) of_row l.invariant

pub returns : goal.returns
returns c =
    let l = c.loop-i in
    all-written (IsAbbreviationOfRow c.args.files.now) c.args.zones.now c.args.instants.now _ l.i c.requires.zones (search rules) l.invariant
