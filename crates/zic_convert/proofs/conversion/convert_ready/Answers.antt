use Rattle.zic_convert.proofs.conversion.convert_ready.Goals as goal

pub returns-in-OpenLine-clause-ok : goal.returns-in-OpenLine-clause-ok
returns-in-OpenLine-clause-ok g c = rw c.in-OpenLine.is (rw c.ready-ready.ensures at c.write_open_line.ensures.ok)

pub returns-in-OpenLine-clause-stop : goal.returns-in-OpenLine-clause-stop
returns-in-OpenLine-clause-stop g c = rw c.in-OpenLine.is (rw c.ready-ready.ensures at c.write_open_line.ensures.stop)
