-- Rows with their line ends.
use Rattle.std.proofs.Common.{◌≡◌, ◌∙◌, ◌+◌, ◌-◌, ◌<◌, ℕ, List, [], ◌∷◌, ◌++◌, ap, ap₂, append-nil, append_assoc, arith, drop, length, length-take-le, sym, take}
use Rattle.std.proofs.Math.Seq.{drop-append_seam, drop-length, take-append-add, take-append_seam, take-length}
use Rattle.std.proofs.lemmas.List.{length-drop, take-append-drop}
use Rattle.zic_layouts.specs.declared.layout.LineEnd.{LineEnd}
use Rattle.zic_layouts.specs.declared.layout.LineEnd.TheVariants as ends
use Rattle.zic_piece_rows.specs.LayoutRows.{ended, with_answer}

-- a row that was appended to a text and then ended
pub row_ended : (line_end : LineEnd) (text row more new : List ℕ) → more ≡ text ++ row → new ≡ take (length text) more ++ ended line_end (drop (length text) more) → new ≡ text ++ ended line_end row
row_ended line_end text row more new made is =
    is ∙ ap (λ (l : List ℕ). take (length text) l ++ ended line_end (drop (length text) l)) made
    ∙ ap₂ (λ (a b : List ℕ). a ++ ended line_end b) (take-append_seam text row) (drop-append_seam text row)

-- a text that has no row from an index on
pub no_row : (text : List ℕ) (start : ℕ) → start ≡ length text → text ≡ take start text ++ ended ends.CrLf (drop start text)
no_row text start is =
    sym (append-nil text) ∙ ap₂ (λ (a b : List ℕ). a ++ ended ends.CrLf b) (sym (ap (λ (n : ℕ). take n text) is ∙ take-length text)) (sym (ap (λ (n : ℕ). drop n text) is ∙ drop-length text))

-- an answer in the place of the last byte of a row
cut_answer : (row answer : List ℕ) → 0 < length row → with_answer row answer ≡ take (length row - 1) row ++ answer
cut_answer [] answer some = absurd (omega (arith, some))
cut_answer (byte ∷ row) answer some =
    let less : length row ≡ length (byte ∷ row) - 1 = omega arith in
    ap (λ (n : ℕ). take n (byte ∷ row) ++ answer) less

-- a carriage return and a line feed in the place of the last byte of a text that has a row from an index on
pub end_cut : (text : List ℕ) (start : ℕ) → start < length text → take (length text - 1) text ++ 13 ∷ 10 ∷ [] ≡ take start text ++ ended ends.CrLf (drop start text)
end_cut text start lt =
    let before = take start text in
    let row = drop start text in
    let crlf : List ℕ = 13 ∷ 10 ∷ [] in
    let first : length before ≡ start = length-take-le start text (omega (arith, lt)) in
    let long : length row ≡ length text - start = length-drop start text in
    let n : length text - 1 ≡ length before + (length row - 1) = omega (arith, first, long, lt) in
    let parts : take (length text - 1) text ≡ before ++ take (length row - 1) row =
    ap (λ (l : List ℕ). take (length text - 1) l) (sym (take-append-drop start text)) ∙ ap (λ (k : ℕ). take k (before ++ row)) n ∙ take-append-add before row (length row - 1) in
    ap (λ (l : List ℕ). l ++ crlf) parts ∙ append_assoc before (take (length row - 1) row) crlf
    ∙ ap (λ (l : List ℕ). before ++ l) (sym (cut_answer row crlf (omega (arith, long, lt))))
