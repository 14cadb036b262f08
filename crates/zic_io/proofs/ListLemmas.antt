-- A list up to one of its elements.
use Rattle.std.proofs.Common.{◌≡◌, ℕ, ◌+◌, ◌<◌, List, [], ◌∷◌, ◌++◌, length, take, drop, get_or, ◌∙◌, sym, ap, append_assoc}
use Rattle.std.proofs.lemmas.List.{take_more, take-append-drop}

-- its elements up to this one, and this one
pub taken : {X : Type 0} (xs : List X) (i : ℕ) (x : X) → i < length xs → get_or xs i x ≡ x → take (i + 1) xs ≡ take i xs ++ x ∷ []
taken xs i x lt is = rw is at (take_more xs i x lt)

-- the elements before this one, this one, and those after it
pub parts : {X : Type 0} (xs : List X) (i : ℕ) (x : X) → i < length xs → get_or xs i x ≡ x → xs ≡ take i xs ++ x ∷ drop (i + 1) xs
parts xs i x lt is =
    sym (take-append-drop (i + 1) xs) ∙ ap (λ l. l ++ drop (i + 1) xs) (taken xs i x lt is) ∙ append_assoc (take i xs) (x ∷ []) (drop (i + 1) xs)
