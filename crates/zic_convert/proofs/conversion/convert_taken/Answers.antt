use Rattle.std.proofs.Common.{refl}
use Rattle.zic_convert.proofs.conversion.convert_taken.Goals as goal

pub returns-in-TooLong-clause-stop : goal.returns-in-TooLong-clause-stop
returns-in-TooLong-clause-stop g c =
    let log = g.L.RowLog.noted c.args.log.now in
    rw c.in-TooLong.is (
      λ releases given over. rw c.max_rows-most.ensures.rows at (c.end_at_long.ensures.stop c.args.conversion.now.by.layout.now releases c.args.next.now.left given log over),
      refl,
    )
