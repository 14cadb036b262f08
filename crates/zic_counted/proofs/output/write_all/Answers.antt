use Rattle.std.proofs.Common.{◌++◌, take, rules}
use Rattle.zic_counted.proofs.Bytes.{moved, writes_both}
use Rattle.zic_counted.proofs.output.write_all.Goals as goal

pub loop-rest-preserved : goal.loop-rest-preserved
loop-rest-preserved g c =
    let inv = c.loop-rest.invariant in
    let rest = c.loop-rest.rest.now in
    let n = c.in-Ok.n in (
      inv.0 ++ take n rest,
      moved inv.0 rest c.args.bytes.now n inv.1,
      writes_both g.W.Write.contents c.args.writer.now c.loop-rest.writer c.write.new.self inv.0 (take n rest) inv.2
          (record { wrote = c.in-Ok.ensures.bytes; counts = c.in-Ok.ensures.some c.if-n-gt0.true }),
    )

pub returns-clause-err : goal.returns-clause-err
returns-clause-err c = search rules
