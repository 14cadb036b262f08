use Rattle.std.proofs.Common.{◌∷◌, ◌∙◌, [], List, ℕ, ap, arith, get_or, refl, subst, sym, take}
use Rattle.std.proofs.lemmas.List.{get_or_default, take_all}
use Rattle.csv.specs.Writing.{default_writer, escaped}
use Rattle.zic_io.specs.code.FaultList.{Gets}
use Rattle.zic_io.proofs.FaultLemmas.{gets_both, gets_nothing}
use Rattle.zic_io.proofs.LineLemmas.{escaped_append, escaped_none}
use Rattle.zic_io.proofs.ListLemmas.{taken}
use Rattle.zic_io.proofs.fault_line.push_doubled.Goals as goal

pub loop-byte-init : goal.loop-byte-init
loop-byte-init g c =
    let contents = g.W.Write.contents in
    let list = c.args.list.now in
    (subst (λ (text : List ℕ). Gets contents text list list) (sym escaped_none) (gets_nothing contents list), refl)

pub loop-byte-preserved : goal.loop-byte-preserved
loop-byte-preserved g c =
    let i = c.loop-byte.byte-index in
    let field = c.args.field.now in
    let byte = get_or field i 0 in
    let more =
    gets_both g.W.Write.contents (escaped default_writer (take i field)) (escaped default_writer (byte ∷ [])) c.args.list.now c.loop-byte.list c.push_byte.new.list c.loop-byte.invariant.0 c.push_byte.ensures.grows in
    let next = taken field i byte c.loop-byte-test.true (get_or_default field i byte 0 c.loop-byte-test.true) in (
      subst (λ (text : List ℕ). Gets g.W.Write.contents text c.args.list.now c.push_byte.new.list)
          (sym (escaped_append (take i field) (byte ∷ [])) ∙ ap (λ (l : List ℕ). escaped default_writer l) (sym next)) more,
      c.push_byte.ensures.file ∙ c.loop-byte.invariant.1,
    )

pub returns-clause-grows : goal.returns-clause-grows
returns-clause-grows g c =
    let field = c.args.field.now in
    subst (λ (l : List ℕ). Gets g.W.Write.contents (escaped default_writer l) c.args.list.now c.loop-byte.list) (take_all c.loop-byte.byte-index field (omega (arith, c.loop-byte-test.false))) c.loop-byte.invariant.0
