use Rattle.std.proofs.Common.{arith}
use Rattle.zic_io.proofs.InputLemmas.{whole}
use Rattle.zic_io.proofs.input.read_whole.Goals as goal

pub returns-clause-whole : goal.returns-clause-whole
returns-clause-whole g c =
    whole (g.R.Read.remaining c.args.reader.now.inner) c.in_ok-bytes.bytes.items c.args.most (omega (arith, c.len.ensures, c.if-len-most.false)) c.in_ok-bytes.ensures.bytes
