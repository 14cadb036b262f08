-- What a log has noted.
use Rattle.std.proofs.Common.{◌≡◌, ◌+◌, ◌<◌, ℕ, suc, List, [], ◌∷◌, ◌++◌, length, take, get_or, Option, None, Some, sym, ap, subst, ◌∙◌, append_assoc, arith}
use Rattle.std.proofs.lemmas.List.{append-nil}
use Rattle.std.proofs.Math.Seq.{take-suc}
use Rattle.zic_layouts.specs.Noted.{RowNote}
use Rattle.zic_convert.specs.Run.{Notes}

-- nothing
pub notes_none : (log : Option (List RowNote)) → Notes log log []
notes_none None = tt
notes_none (Some before) = sym (append-nil before)

-- some rows, and then others
pub notes_more : (a b c : Option (List RowNote)) (xs ys : List RowNote) → Notes a b xs → Notes b c ys → Notes a c (xs ++ ys)
notes_more None b c xs ys first then = tt
notes_more (Some before) None c xs ys first then = absurd first
notes_more (Some before) (Some mid) None xs ys first then = absurd then
notes_more (Some before) (Some mid) (Some after) xs ys first then =
    then ∙ ap (λ (l : List RowNote). l ++ ys) first ∙ append_assoc before xs ys

-- one row more of a list
pub notes_next : (a b c : Option (List RowNote)) (faults : List RowNote) (i : ℕ) (row : RowNote) → i < length faults → row ≡ get_or faults i row → Notes a b (take i faults)
    → Notes b c (row ∷ []) → Notes a c (take (i + 1) faults)
notes_next a b c faults i row lt is first then =
    let at : suc i ≡ i + 1 = omega arith in
    let next = subst (λ (r : RowNote). Notes b c (r ∷ [])) is then in
    subst (λ (l : List RowNote). Notes a c l) (sym (take-suc faults i row lt) ∙ ap (λ (n : ℕ). take n faults) at) (notes_more a b c (take i faults) (get_or faults i row ∷ []) first next)
