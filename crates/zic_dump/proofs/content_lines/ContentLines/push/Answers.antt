use Rattle.std.proofs.Common.{string_bytes, arith}
use Rattle.std.specs.Prelude.{encode_utf8}
use Rattle.std.specs.Result.{is_ok}
use Rattle.zic_dump.proofs.ContentLines.{pushed}
use Rattle.zic_dump.proofs.content_lines.ContentLines.push.Goals as goal

pub invariant_of-self : goal.invariant_of-self
invariant_of-self c =
    let octets = c.len_utf8.ensures.len in
    let fits = c.if-used-gt-LONGEST.false in
    rw (c.push.ensures.bytes, octets)
    (pushed (is_ok c.push.result) (string_bytes c.self.inside.text) (encode_utf8 c.args.letter) c.self.inside.used c.self.invariant (omega (arith, octets, fits)))
