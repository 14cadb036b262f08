-- Lists that are joined and cut again.
use Rattle.std.proofs.Common.{◌≡◌, ℕ, List, [], ◌∷◌, ◌++◌, append_assoc, ◌∙◌}

-- three parts after a list, one after another
pub three_after : {A : Type 0} (xs a b c : List A) → ((xs ++ a) ++ b) ++ c ≡ xs ++ (a ++ (b ++ c))
three_after xs a b c = append_assoc (xs ++ a) b c ∙ append_assoc xs a (b ++ c)

-- a text between two newlines, after a list
pub line_after : (xs text : List ℕ) → ((xs ++ 10 ∷ []) ++ text) ++ 10 ∷ [] ≡ xs ++ (10 ∷ (text ++ 10 ∷ []))
line_after xs text = simp append_assoc
