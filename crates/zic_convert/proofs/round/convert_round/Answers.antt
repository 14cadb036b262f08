use Rattle.zic_convert.specs.code.Written.{EndsInRound, WritesRound, writing}
use Rattle.zic_convert.proofs.Joining.{again_err, again_ok, on_err, on_ok}
use Rattle.zic_convert.proofs.round.convert_round.Goals as goal

pub write_round-written-requires-clause-values : goal.write_round-written-requires-clause-values
write_round-written-requires-clause-values g c = rw c.deref.ensures.value (c.requires.crew.gives _ _ c.in-Ok.ensures).0

pub returns-in-Err-Fault-clause-ok : goal.returns-in-Err-Fault-clause-ok
returns-in-Err-Fault-clause-ok g c =
    let p = c.args.pieces.now in
    let left = c.args.left in
    let contents = g.W.Write.contents in
    let log = g.L.RowLog.noted c.args.log.now in
    let log' = g.L.RowLog.noted c.convert_again.new.log in
    let stop = rw c.in-Err-Fault.field-0-is at (c.requires.crew.gives _ _ c.in-Err-Fault.ensures).1 in
    let found = stop.2 in
    on_ok c.convert_again.result _ (WritesRound p left (writing contents c.args.writer.now c.convert_again.new.writer log log'))
    (λ tally wrote. absurd (again_ok p c.in-Err-Fault.i found.1 c.requires.pieces stop.0 found.2 found.3 left contents c.args.writer.now c.convert_again.new.writer log log' tally wrote))
    (rw c.up_to.ensures at c.convert_again.ensures.ok)

pub returns-in-Err-Fault-clause-stop : goal.returns-in-Err-Fault-clause-stop
returns-in-Err-Fault-clause-stop g c =
    let p = c.args.pieces.now in
    let left = c.args.left in
    let contents = g.W.Write.contents in
    let log = g.L.RowLog.noted c.args.log.now in
    let log' = g.L.RowLog.noted c.convert_again.new.log in
    let stop = rw c.in-Err-Fault.field-0-is at (c.requires.crew.gives _ _ c.in-Err-Fault.ensures).1 in
    let found = stop.2 in
    on_err c.convert_again.result _ (EndsInRound p left (writing contents c.args.writer.now c.convert_again.new.writer log log'))
    (λ why ends. again_err p c.in-Err-Fault.i found.1 c.requires.pieces stop.0 found.2 found.3 left contents c.args.writer.now c.convert_again.new.writer log log' why ends)
    (rw c.up_to.ensures at c.convert_again.ensures.stop)
