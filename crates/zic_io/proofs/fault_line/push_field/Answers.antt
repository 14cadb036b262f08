use Rattle.std.proofs.Common.{◌++◌, ◌∷◌, ◌∙◌, [], List, ℕ, subst, sym}
use Rattle.csv.specs.Writing.{default_writer, escaped}
use Rattle.zic_io.specs.code.FaultList.{Gets}
use Rattle.zic_io.proofs.FaultLemmas.{gets_both}
use Rattle.zic_io.proofs.LineLemmas.{plain_text, quoted_text}
use Rattle.zic_io.proofs.fault_line.push_field.Goals as goal

pub returns-then-needs_quotes-clause-grows : goal.returns-then-needs_quotes-clause-grows
returns-then-needs_quotes-clause-grows g c =
    let contents = g.W.Write.contents in
    let within = escaped default_writer c.args.field.now in
    let last = c.push-then-needs_quotes.new.self in
    let rest = gets_both contents within (34 ∷ []) c.push.new.self c.push_doubled.new.list last c.push_doubled.ensures.grows c.push-then-needs_quotes.ensures.grows in
    let all = gets_both contents (34 ∷ []) (within ++ (34 ∷ [])) c.args.list.now c.push.new.self last c.push.ensures.grows rest in
    subst (λ (text : List ℕ). Gets contents text c.args.list.now last) (sym (quoted_text c.args.field.now (sym c.needs_quotes.ensures ∙ c.if-needs_quotes.true))) all

pub returns-else-needs_quotes-clause-grows : goal.returns-else-needs_quotes-clause-grows
returns-else-needs_quotes-clause-grows g c =
    subst (λ (text : List ℕ). Gets g.W.Write.contents text c.args.list.now c.push-else-needs_quotes.new.self)
    (sym (plain_text c.args.field.now (sym c.needs_quotes.ensures ∙ c.if-needs_quotes.false))) c.push-else-needs_quotes.ensures.grows
