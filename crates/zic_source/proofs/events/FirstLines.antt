-- The first line of a text.
use Rattle.std.proofs.Common.{◌≡◌, ℕ, ◌+◌, ◌<◌, ◌≤◌, eqb, false, All, List, [], ◌∷◌, length, take, drop, get_or, Some, None, refl, sym, ap, ◌∙◌, arith, subst}
use Rattle.std.specs.List.{slice_split, join_with_byte}
use Rattle.std.proofs.lemmas.List.Splits.{join_with_byte-slice_split}
use Rattle.zic_lines.specs.Line.{lines_of, without_empty_last}
use Rattle.zic_lines.proofs.Splits.{first_part, split_found, split_none}
use Rattle.memchr.specs.Find.{Nowhere, Passes, IsFirstByte, is_byte}
use Rattle.std.proofs.lemmas.Bool.{eqb-true, false_from_ne_true}
use Rattle.std.proofs.lemmas.List.{get_or-take, get_or_default, length-take-le}

keeps_front : (line first : List ℕ) (parts : List (List ℕ)) → without_empty_last (line ∷ first ∷ parts) ≡ line ∷ without_empty_last (first ∷ parts)
keeps_front [] first parts = refl
keeps_front (byte ∷ bytes) first parts = refl

-- a line that ends at a newline
line_ended : (text line rest : List ℕ) → slice_split (λ byte. eqb byte 10) text ≡ line ∷ slice_split (λ byte. eqb byte 10) rest → lines_of text ≡ line ∷ lines_of rest
line_ended text line rest e =
    let first = first_part (λ byte. eqb byte 10) rest in
    ap without_empty_last e ∙ ap (λ (ps : List (List ℕ)). without_empty_last (line ∷ ps)) first.2 ∙ keeps_front line first.0 first.1
    ∙ ap (λ (ps : List (List ℕ)). line ∷ without_empty_last ps) (sym first.2)

only_line : (line : List ℕ) → 0 < length line → without_empty_last (line ∷ []) ≡ line ∷ []
only_line [] lt = absurd (omega arith)
only_line (byte ∷ bytes) lt = refl

-- a line that ends with the text
last_line : (text line : List ℕ) → 0 < length text → slice_split (λ byte. eqb byte 10) text ≡ line ∷ [] → lines_of text ≡ line ∷ []
last_line text line lt e =
    let same : line ≡ text = ap (join_with_byte 10) (sym e) ∙ join_with_byte-slice_split 10 text in
    let P : List ℕ → Type 0 = λ l. 0 < length l in
    ap without_empty_last e ∙ only_line line (subst P (sym same) lt)

-- no newline stands before the first
before : (text : List ℕ) («end» : ℕ) → «end» ≤ length text → Nowhere (Passes (is_byte 10) text) 0 «end» → All (λ byte. eqb byte 10 ≡ false) (take «end» text)
before text end' le none = λ k d lt.
    let inside : k < end' = omega (arith, lt, length-take-le end' text le) in
    ap (λ (byte : ℕ). eqb byte 10) (get_or-take end' text k d inside ∙ get_or_default text k d 0 (omega (arith, inside, le)))
    ∙ false_from_ne_true (eqb (get_or text k 0) 10) (none k (omega arith) inside)

pub found : (text : List ℕ) («end» : ℕ) → IsFirstByte (is_byte 10) text (Some «end») → lines_of text ≡ take «end» text ∷ lines_of (drop («end» + 1) text)
found text end' h =
    line_ended text (take end' text) (drop (end' + 1) text) (split_found text 10 end' h.0.high (before text end' (omega (arith, h.0.high)) h.0.before) (eqb-true (get_or text end' 0) 10 h.1))

pub not_found : (text : List ℕ) → 0 < length text → IsFirstByte (is_byte 10) text None → lines_of text ≡ text ∷ []
not_found text lt h =
    let all : length text ≤ length text = omega arith in
    last_line text text lt (split_none text 10 (length text) all (before text (length text) all h))
