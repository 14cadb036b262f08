use Rattle.std.proofs.Common.{◌≡◌, ◌∙◌, ◌+◌, ◌-◌, ◌++◌, ℕ, List, ap, ap₂, arith, drop, length, length-drop, length-take-le, sym, take}
use lib.Seq.{paste}
use Rattle.std.proofs.lemmas.List.{drop-take, take-take}
use Rattle.std.proofs.lemmas.List.Edits.{take-paste}
use Rattle.zic_row_text.proofs.row_text.RowText.remove.Goals as goal

pub returns : goal.returns
returns c =
    let all = c.self.inside.bytes.items in
    let len = c.self.inside.len in
    let at = c.args.at in
    let old = c.args.self.now in
    let size : length old ≡ len = ap length (sym c.self.view_is) ∙ length-take-le len all (omega (arith, c.self.invariant)) in
    let n = len - (at + 1) in
    let left : len - 1 ≡ at + n = omega (arith, c.requires, size) in
    let whole : (at + 1) + n ≡ len = omega (arith, c.requires, size) in
    let before : take at all ≡ take at old = sym (take-take at len all (omega (arith, c.requires, size))) ∙ ap (take at) c.self.view_is in
    let after : take n (drop (at + 1) all) ≡ drop (at + 1) old = sym (drop-take (at + 1) n all) ∙ ap (λ (k : ℕ). drop (at + 1) (take k all)) whole ∙ ap (drop (at + 1)) c.self.view_is in
    ap (take (len - 1)) c.copy_within.ensures.items ∙ ap (λ (k : ℕ). take k (paste all at (drop (at + 1) all) n)) left
    ∙ take-paste all at (drop (at + 1) all) n (omega (arith, c.requires, size, c.self.invariant)) (omega (arith, c.requires, size, c.self.invariant, length-drop (at + 1) all))
    ∙ ap₂ (λ (a b : List ℕ). a ++ b) before after
