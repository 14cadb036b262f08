use Rattle.std.proofs.Common.{string_bytes, [], arith}
use Rattle.zic_dump.proofs.ContentLines.{ended}
use Rattle.zic_dump.proofs.content_lines.ContentLines.end.Goals as goal

pub invariant_of-self-2 : goal.invariant_of-self-2
invariant_of-self-2 c = rw c.in_ok-push_str.ensures.bytes (ended (string_bytes c.self.inside.text) [] c.self.inside.used c.self.invariant (omega arith))
