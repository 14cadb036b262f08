-- The parts between separators, one after the other.
use Rattle.std.proofs.Common.{Bool, Option, Some, None, arith, ◌≡◌, ℕ, ◌+◌, ◌<◌, ◌≤◌, false, eqb, List, [], ◌∷◌, ◌++◌, length, get_or, take, drop, All, refl, sym, ap, subst, ◌∙◌}
use Rattle.std.specs.List.{slice_split}
use Rattle.std.specs.Borrow.{Bor}
use Rattle.zic_lines.specs.Parts.{one_or_two, split_at_most_once}
use Rattle.zic_lines.specs.code.Parts.{other_parts}
use Rattle.std.proofs.lemmas.Bool.{eq-eqb}
use Rattle.std.proofs.lemmas.List.{take-append-drop, drop_more, take_all}
use Rattle.std.proofs.lemmas.List.Splits.{length-slice_split, slice_split_at, slice_split_none}

-- where the first separator stands
pub split_found : (bytes : List ℕ) (separator index : ℕ) → index < length bytes → All (λ byte. eqb byte separator ≡ false) (take index bytes) → get_or bytes index 0 ≡ separator
    → slice_split (λ byte. eqb byte separator) bytes ≡ take index bytes ∷ slice_split (λ byte. eqb byte separator) (drop (index + 1) bytes)
split_found bytes separator index lt none here =
    let whole : bytes ≡ take index bytes ++ separator ∷ drop (index + 1) bytes = sym (take-append-drop index bytes) ∙ ap (λ (rest : List ℕ). take index bytes ++ rest) (drop_more bytes index 0 lt ∙ ap (λ (byte : ℕ). byte ∷ drop (index + 1) bytes) here) in
    ap (slice_split (λ byte. eqb byte separator)) whole ∙ slice_split_at (λ byte. eqb byte separator) (take index bytes) separator (drop (index + 1) bytes) none (eq-eqb separator separator refl)

-- where there is none
pub split_none : (bytes : List ℕ) (separator index : ℕ) → length bytes ≤ index → All (λ byte. eqb byte separator ≡ false) (take index bytes) → slice_split (λ byte. eqb byte separator) bytes ≡ bytes ∷ []
split_none bytes separator index le none = slice_split_none (λ byte. eqb byte separator) bytes (subst (All (λ byte. eqb byte separator ≡ false)) (take_all index bytes le) none)

-- there is always a first part
some_part : {X : Type 0} (parts : List X) (n : ℕ) → length parts ≡ n + 1 → (first : X) × (others : List X) × (parts ≡ first ∷ others)
some_part [] n e = absurd (omega arith)
some_part (first ∷ others) n e = (first, others, refl)

pub first_part : (p : ℕ → Bool) (text : List ℕ) → (first : List ℕ) × (others : List (List ℕ)) × (slice_split p text ≡ first ∷ others)
first_part p text = some_part (slice_split p text) _ (length-slice_split p text)

-- the separator stands there twice
pub three_parts : (bytes : List ℕ) (separator : ℕ) (part other : List ℕ) (more : Option (Bor (List ℕ))) (rest : Bor (List ℕ)) → more ≡ Some rest
    → slice_split (λ byte. eqb byte separator) bytes ≡ part ∷ other ∷ other_parts (λ byte. eqb byte separator) more → None ≡ split_at_most_once bytes separator
unfolding split_at_most_once
three_parts bytes separator part other more rest is e =
    let separates = λ (byte : ℕ). eqb byte separator in
    let first = first_part separates rest.now in
    let all : slice_split separates bytes ≡ part ∷ other ∷ first.0 ∷ first.1 =
    e ∙ ap (λ (o : Option (Bor (List ℕ))). part ∷ other ∷ other_parts separates o) is ∙ ap (λ (ps : List (List ℕ)). part ∷ other ∷ ps) first.2 in
    sym (ap one_or_two all)
