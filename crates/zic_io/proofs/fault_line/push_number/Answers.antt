use Rattle.std.proofs.Common.{◌<◌, ◌^◌, ◌∙◌, List, ℕ, arith, subst, sym}
use Rattle.zic_io.specs.code.FaultList.{Gets}
use Rattle.zic_io.proofs.LineLemmas.{number_text}
use Rattle.zic_io.proofs.fault_line.push_number.Goals as goal

pub returns-clause-grows : goal.returns-clause-grows
returns-clause-grows g c =
    let fits : c.args.number < 2 ^ 64 = omega arith in
    subst (λ (text : List ℕ). Gets g.W.Write.contents text c.args.list.now c.push.new.self) (c.as_bytes.ensures.value ∙ c.format.ensures.text ∙ sym (number_text c.args.number fits)) c.push.ensures.grows
