use Rattle.std.proofs.Common.{◌≡◌, ◌∙◌, ◌++◌, ◌∷◌, [], ℕ, List, Result, Ok, Err, ap, ap₂, append_assoc, sym}
use Rattle.std.specs.Prelude.{OnOk, codes}
use Rattle.zic_piece_rows.specs.LayoutRows.{ended}
use Rattle.zic_convert.specs.Column.{names_added, time_name}
use Rattle.zic_convert.proofs.LineEnds.{line_ended}
use Rattle.zic_convert.proofs.names.row_names.Goals as goal

-- what was appended, where there was room
had_room : {A E : Type 0} (result : Result A E) (a : A) (new all : List ℕ) → result ≡ Ok a → OnOk result (new ≡ all) → new ≡ all
had_room (Ok b) a new all is same = same
had_room (Err e) a new all is same = absurd (cc is)

pub returns : goal.returns
returns c =
    let layout = c.args.layout.now in
    let e = layout.line_end in
    let d = layout.delimiter in
    let added = names_added layout c.args.old.now in
    let start : List ℕ = codes "zone" ++ d ∷ time_name layout.from in
    let zone : c.try_extend_from_slice.new.self.items ≡ codes "zone" =
    had_room c.try_extend_from_slice.result c.unwrap.result _ _ c.unwrap.ensures c.try_extend_from_slice.ensures.ok ∙ ap (λ (l : List ℕ). l ++ codes "zone") c.new-text.ensures in
    let then : c.push.new.self.items ≡ codes "zone" ++ d ∷ [] = c.push.ensures.items ∙ ap₂ (λ (l : List ℕ) (byte : ℕ). l ++ byte ∷ []) zone c.byte.ensures.byte in
    let begun : c.try_extend_from_slice-2.new.self.items ≡ start =
    had_room c.try_extend_from_slice-2.result c.unwrap-2.result _ _ c.unwrap-2.ensures c.try_extend_from_slice-2.ensures.ok ∙ ap₂ (λ (a b : List ℕ). a ++ b) then c.time_name.ensures.value in
    let named : c.push_added.new.text.items ≡ start ++ added = c.push_added.ensures.items ∙ ap (λ (l : List ℕ). l ++ added) begun in
    had_room c.try_extend_from_slice-3.result c.unwrap-3.result _ _ c.unwrap-3.ensures c.try_extend_from_slice-3.ensures.ok ∙ ap₂ (λ (a b : List ℕ). a ++ b) named c.bytes.ensures
    ∙ sym (line_ended e (start ++ added)) ∙ ap (ended e) (append_assoc start added (10 ∷ []))
