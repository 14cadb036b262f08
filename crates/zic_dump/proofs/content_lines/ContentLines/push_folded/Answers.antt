use Rattle.std.proofs.Common.{string_bytes, [], ◌∷◌, ◌++◌, arith}
use Rattle.std.specs.Prelude.{encode_utf8}
use Rattle.std.specs.Result.{is_ok}
use Rattle.zic_dump.proofs.ContentLines.{ended, pushed}
use Rattle.zic_dump.proofs.content_lines.ContentLines.push_folded.Goals as goal

pub invariant_of-self-2 : goal.invariant_of-self-2
invariant_of-self-2 c =
    let text = string_bytes c.self.inside.text in
    let folded = ended text (32 ∷ []) c.self.inside.used c.self.invariant (omega arith) in
    let octets = c.len_utf8.ensures.len in
    let few = c.len_utf8.ensures.upper_bound in
    rw (c.push.ensures.bytes, c.in_ok-push_str.ensures.bytes, octets)
    (pushed (is_ok c.push.result) (text ++ (13 ∷ 10 ∷ 32 ∷ [])) (encode_utf8 c.args.letter) 1 folded (omega (arith, octets, few)))
