use Rattle.std.proofs.Common.{◌∙◌, ◌++◌, ◌∷◌, [], List, ℕ, decimal, subst, sym}
use Rattle.csv.specs.Writing.{default_writer, field_text, fields_text}
use Rattle.zic_base.specs.RowFault.{row_kind_word}
use Rattle.zic_io.specs.Faults.{field_if, line_field, value_field}
use Rattle.zic_io.specs.code.FaultList.{Gets}
use Rattle.zic_io.proofs.FaultLemmas.{gets_both}
use Rattle.zic_io.proofs.LineLemmas.{line_parts}
use Rattle.zic_io.proofs.fault_line.push_line.Goals as goal

pub returns-clause-grows : goal.returns-clause-grows
returns-clause-grows g c =
    let contents = g.W.Write.contents in
    let fault = c.args.fault in
    let fields = c.args.fields in
    let detail = c.args.detail.now in
    let name = c.as_bytes.ensures.value ∙ c.name.ensures in
    let of_name = subst (λ (text : List ℕ). Gets contents text c.push.new.self c.push-2.new.self) name c.push-2.ensures.grows in
    let word = row_kind_word fault.kind in
    let lines = fields_text default_writer (field_if fields.line (line_field detail)) in
    let values = fields_text default_writer (field_if fields.value (value_field detail)) in
    let from_value = gets_both contents values (10 ∷ []) c.push_line_number.new.list c.push_value.new.list c.push-3.new.self c.push_value.ensures.grows c.push-3.ensures.grows in
    let from_line = gets_both contents lines (values ++ (10 ∷ [])) c.push-2.new.self c.push_line_number.new.list c.push-3.new.self c.push_line_number.ensures.grows from_value in
    let from_name = gets_both contents word (lines ++ (values ++ (10 ∷ []))) c.push.new.self c.push-2.new.self c.push-3.new.self of_name from_line in
    let from_comma = gets_both contents (44 ∷ []) (word ++ (lines ++ (values ++ (10 ∷ [])))) c.push_number.new.list c.push.new.self c.push-3.new.self c.push.ensures.grows from_name in
    let all = gets_both contents (field_text default_writer (decimal fault.row)) (44 ∷ (word ++ (lines ++ (values ++ (10 ∷ []))))) c.args.list.now c.push_number.new.list c.push-3.new.self c.push_number.ensures.grows from_comma in
    subst (λ (text : List ℕ). Gets contents text c.args.list.now c.push-3.new.self) (sym (line_parts fields fault detail)) all
