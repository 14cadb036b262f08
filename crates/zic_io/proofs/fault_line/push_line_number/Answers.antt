use Rattle.std.proofs.Common.{◌∙◌, ◌∷◌, [], List, Option, ℕ, ap, decimal, subst, sym}
use Rattle.std.proofs.lemmas.Bool.{not-false, not-true}
use Rattle.csv.specs.Writing.{default_writer, field_text}
use Rattle.zic_layouts.specs.declared.row_log.FaultDetail.{FaultDetail}
use Rattle.zic_io.specs.Faults.{line_field}
use Rattle.zic_io.specs.code.FaultList.{Gets}
use Rattle.zic_io.proofs.FaultLemmas.{gets_both, gets_nothing}
use Rattle.zic_io.proofs.LineLemmas.{field_left_out, field_requested}
use Rattle.zic_io.proofs.fault_line.push_line_number.Goals as goal

pub returns-then-not-fields-clause-grows : goal.returns-then-not-fields-clause-grows
returns-then-not-fields-clause-grows g c =
    let contents = g.W.Write.contents in
    let list = c.args.list.now in
    let left_out = field_left_out c.args.fields.line (line_field c.args.detail.now) (not-true c.args.fields.line c.if-not-fields.true) in
    subst (λ (text : List ℕ). Gets contents text list list) (sym left_out) (gets_nothing contents list)

pub returns-in-Some-clause-grows : goal.returns-in-Some-clause-grows
returns-in-Some-clause-grows g c =
    let contents = g.W.Write.contents in
    let text = field_text default_writer (decimal c.in-Some.detail.line) in
    let both = gets_both contents (44 ∷ []) text c.args.list.now c.push.new.self c.push_number.new.list c.push.ensures.grows c.push_number.ensures.grows in
    let requested = field_requested c.args.fields.line (line_field c.args.detail.now) (not-false c.args.fields.line c.if-not-fields.false) in
    let is = ap (λ (d : Option FaultDetail). 44 ∷ field_text default_writer (line_field d)) c.in-Some.is in
    subst (λ (t : List ℕ). Gets contents t c.args.list.now c.push_number.new.list) (sym (requested ∙ is)) both

pub returns-in_default-clause-grows : goal.returns-in_default-clause-grows
returns-in_default-clause-grows g c =
    let requested = field_requested c.args.fields.line (line_field c.args.detail.now) (not-false c.args.fields.line c.if-not-fields.false) in
    let is = ap (λ (d : Option FaultDetail). 44 ∷ field_text default_writer (line_field d)) c.in_default.is in
    subst (λ (t : List ℕ). Gets g.W.Write.contents t c.args.list.now c.push.new.self) (sym (requested ∙ is)) c.push.ensures.grows
