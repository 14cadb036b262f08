-- Texts that lie one after another.
use Rattle.std.proofs.Common.{◌≡◌, ◌+◌, ◌<◌, ◌≤◌, ℕ, List, [], ◌∷◌, ◌++◌, length, take, drop, get_or, sym, ◌∙◌, append_assoc}
use Rattle.std.proofs.lemmas.List.{append-nil, at_drop_all, at_drop_more}
use Rattle.pzic_files.specs.Source.{texts_in}

-- one more text is copied
pub copied-next : (copies : List (List ℕ)) (i : ℕ) (lengths rest : List ℕ) (all : List (List ℕ)) → i < length lengths
    → copies ++ texts_in (drop i lengths) rest ≡ all
    → (copies ++ take (get_or lengths i 0) rest ∷ []) ++ texts_in (drop (i + 1) lengths) (drop (get_or lengths i 0) rest) ≡ all
copied-next copies i lengths rest all inside so_far =
    let n = get_or lengths i 0 in
    append_assoc copies (take n rest ∷ []) (texts_in (drop (i + 1) lengths) (drop n rest))
    ∙ (sym (at_drop_more (λ (ls : List ℕ). copies ++ texts_in ls rest) lengths i 0 inside) ∙ so_far)

-- all texts are copied
pub copied-all : (copies : List (List ℕ)) (i : ℕ) (lengths rest : List ℕ) (all : List (List ℕ)) → length lengths ≤ i
    → copies ++ texts_in (drop i lengths) rest ≡ all → copies ≡ all
copied-all copies i lengths rest all past so_far =
    sym (at_drop_all (λ (ls : List ℕ). copies ++ texts_in ls rest) lengths i past ∙ append-nil copies) ∙ so_far
