-- A line, part after part.
use Rattle.std.proofs.Common.{◌≡◌, ℕ, List, [], ◌∷◌, ◌++◌, append_assoc}

pub line_joined : (old name from until a b one two three four five six seven eight : List ℕ) → one ≡ old ++ name → two ≡ one ++ 44 ∷ [] → three ≡ two ++ from → four ≡ three ++ 44 ∷ []
    → five ≡ four ++ until → six ≡ five ++ a → seven ≡ six ++ b → eight ≡ seven ++ 10 ∷ []
    → eight ≡ old ++ (name ++ 44 ∷ (from ++ 44 ∷ (until ++ (a ++ (b ++ 10 ∷ [])))))
line_joined old name from until a b one two three four five six seven eight e1 e2 e3 e4 e5 e6 e7 e8 = rw (e8, e7, e6, e5, e4, e3, e2, e1) (simp append_assoc)

pub summary_joined : (old name from until a b kind one two three four five six seven eight nine ten eleven twelve : List ℕ) → one ≡ old ++ name → two ≡ one ++ 44 ∷ [] → three ≡ two ++ from
    → four ≡ three ++ 44 ∷ [] → five ≡ four ++ until → six ≡ five ++ 44 ∷ [] → seven ≡ six ++ a → eight ≡ seven ++ 44 ∷ [] → nine ≡ eight ++ b → ten ≡ nine ++ 44 ∷ []
    → eleven ≡ ten ++ kind → twelve ≡ eleven ++ 10 ∷ []
    → twelve ≡ old ++ (name ++ 44 ∷ (from ++ 44 ∷ (until ++ 44 ∷ (a ++ 44 ∷ (b ++ 44 ∷ (kind ++ 10 ∷ []))))))
summary_joined old name from until a b kind one two three four five six seven eight nine ten eleven twelve e1 e2 e3 e4 e5 e6 e7 e8 e9 e10 e11 e12 =
    rw (e12, e11, e10, e9, e8, e7, e6, e5, e4, e3, e2, e1) (simp append_assoc)
