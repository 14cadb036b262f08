use Rattle.std.proofs.Common.{◌≡◌, is_some, take}
use Rattle.csv.specs.Writing.{default_writer, escaped}
use Rattle.zic_io.specs.code.FaultList.{Gets}
use Rattle.zic_io.proofs.fault_line.push_doubled.Given as goal

abbrev pub invariant-loop-byte : goal.invariant-loop-byte
invariant-loop-byte g l = Gets g.W.Write.contents (escaped default_writer (take l.byte-index l.field)) l.fn.list l.list × (is_some l.list.file ≡ is_some l.fn.list.file)
