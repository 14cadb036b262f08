use Rattle.std.proofs.Common.{◌≡◌, map, take}
use Rattle.pzic_files.specs.LayoutRows.{note_seen}
use Rattle.pzic_files.proofs.layout_rows.all_seen.Given as goal

abbrev pub invariant-loop-fault : goal.invariant-loop-fault
invariant-loop-fault l = l.all.items ≡ map note_seen (take l.fault-index l.faults)
