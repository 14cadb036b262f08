use Rattle.std.proofs.Common.{◌≡◌, ◌∙◌, ℕ, List, [], ◌++◌, Result, Ok, Err, ap, if◌then◌else◌, length, rules, sym, vec_len}
use Rattle.std.specs.Prelude.{OnOk, is_ok}
use Rattle.std.proofs.lemmas.List.{nil_from_length}
use Rattle.zic_layouts.specs.Layout.{line_end_bytes}
use Rattle.zic_layouts.specs.declared.layout.RowStart.TheVariants as starts
use Rattle.zic_piece_rows.specs.LayoutRows.{ended}
use Rattle.zic_convert.specs.Column.{header_of, names_added}
use Rattle.zic_convert.proofs.LineEnds.{header_ended, none_ended}
use Rattle.zic_convert.proofs.output.add_names.Goals as goal

-- what was appended, where memory was not refused
appended : {A E : Type 0} (result : Result A E) (new all old wanted : List ℕ) → new ≡ (if is_ok result then all else old) → all ≡ wanted → OnOk result (new ≡ wanted)
appended (Ok a) new all old wanted is same = is ∙ same
appended (Err e) new all old wanted is same = tt

pub returns-then-is_empty : goal.returns-then-is_empty
returns-then-is_empty c =
    let e = c.args.layout.now.line_end in
    let names = names_added c.args.layout.now c.args.old.now in
    let size : length c.args.line.now.items ≡ 0 = search rules in
    let none = nil_from_length c.args.line.now.items size in
    none ∙ sym (ap (λ (l : List ℕ). ended e (header_of starts.Record names l)) none ∙ none_ended e)

pub returns : goal.returns
returns c =
    let own = c.args.line.now.items in
    let e = c.args.layout.now.line_end in
    let names = names_added c.args.layout.now c.args.old.now in
    let size : length own ≡ vec_len c.args.line.now = search rules in
    let some : own ≡ [] → ⊥ = λ none. search (rules, none) in
    let added : c.extend_from_slice.new.self.items ≡ own ++ names =
    c.in_ok-extend_from_slice.ensures.items ∙ ap (λ (l : List ℕ). own ++ l) (c.as_slice.ensures.value ∙ c.push_added.ensures.items ∙ ap (λ (l : List ℕ). l ++ names) c.new-names.ensures) in
    let ended_so = ap (λ (l : List ℕ). c.extend_from_slice.new.self.items ++ l) c.bytes.ensures ∙ ap (λ (l : List ℕ). l ++ line_end_bytes e) added ∙ header_ended e names own some in
    appended c.extend_from_slice-2.result _ _ _ _ c.extend_from_slice-2.ensures.items ended_so
