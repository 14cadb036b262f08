-- The lines of names, one after another.
use Rattle.std.proofs.Common.{◌≡◌, ℕ, List, [], ◌∷◌, ◌++◌, sym, ap, ◌∙◌, append-nil, append_assoc}
use Rattle.std.proofs.lemmas.Grind.{flat_map-append}
use Rattle.zic_compare.specs.Refused.{lines_with}

-- that of one name more
pub name_more : (after : List ℕ) (names : List (List ℕ)) (old lines name next : List ℕ) → lines ≡ old ++ lines_with after names → next ≡ lines ++ (name ++ after)
    → next ≡ old ++ lines_with after (names ++ name ∷ [])
name_more after names old lines name next before pushed =
    let more : lines_with after (names ++ name ∷ []) ≡ lines_with after names ++ (name ++ after) =
    flat_map-append (λ (n : List ℕ). n ++ after) names (name ∷ []) ∙ ap (λ (l : List ℕ). lines_with after names ++ l) (append-nil (name ++ after)) in
    pushed ∙ ap (λ (l : List ℕ). l ++ (name ++ after)) before ∙ append_assoc old (lines_with after names) (name ++ after) ∙ ap (λ (l : List ℕ). old ++ l) (sym more)
