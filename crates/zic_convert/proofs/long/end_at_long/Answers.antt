use Rattle.zic_convert.specs.By.{by_of}
use Rattle.zic_convert.proofs.LongRecords.{long_stops, stop_cause}
use Rattle.zic_convert.proofs.long.end_at_long.Goals as goal

pub returns-clause-stop : goal.returns-clause-stop
returns-clause-stop g c = λ layout releases limit given log long.
    long_stops g.W.Write.contents c.args.writer.now c.stop_at.new.writer (by_of layout releases c.args.most limit) c.args.number given c.long_kind.result (c.long_kind.ensures layout releases.zones given long) log
    c.stop_at.result c.stop_at.ensures

pub returns-clause-cause : goal.returns-clause-cause
returns-clause-cause g c = stop_cause g.W.Write.contents c.args.writer.now c.stop_at.new.writer c.args.number c.long_kind.result c.stop_at.result c.stop_at.ensures
