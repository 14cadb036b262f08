use Rattle.std.proofs.Common.{◌≡◌, map, take}
use Rattle.pzic_files.specs.RowLayout.{field_number}
use Rattle.pzic_files.proofs.row_layout.fields_of.Given as goal

abbrev pub invariant-loop-number : goal.invariant-loop-number
invariant-loop-number l = map field_number l.fields.items ≡ take l.number-index l.numbers
