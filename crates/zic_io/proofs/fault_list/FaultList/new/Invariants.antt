use Rattle.zic_io.specs.Faults.{held_by}
use Rattle.zic_io.proofs.fault_list.FaultList.new.Given as goal

abbrev pub ghost-new : goal.ghost-new
ghost-new g a = held_by g.W.Write.contents a._file.now
