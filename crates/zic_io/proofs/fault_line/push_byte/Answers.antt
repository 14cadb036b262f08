use Rattle.std.proofs.Common.{List, ℕ, subst, sym}
use Rattle.zic_io.specs.code.FaultList.{Gets}
use Rattle.zic_io.proofs.LineLemmas.{escaped_other, escaped_quote}
use Rattle.zic_io.proofs.fault_line.push_byte.Goals as goal

pub returns-then-byte-eq34-clause-grows : goal.returns-then-byte-eq34-clause-grows
returns-then-byte-eq34-clause-grows g c = subst (λ (text : List ℕ). Gets g.W.Write.contents text c.args.list.now c.push.new.self) (sym (escaped_quote c.args.byte c.if-byte-eq34.true)) c.push.ensures.grows

pub returns-else-byte-eq34-clause-grows : goal.returns-else-byte-eq34-clause-grows
returns-else-byte-eq34-clause-grows g c =
    subst (λ (text : List ℕ). Gets g.W.Write.contents text c.args.list.now c.push-else-byte-eq34.new.self) (sym (escaped_other c.args.byte c.if-byte-eq34.false)) c.push-else-byte-eq34.ensures.grows
