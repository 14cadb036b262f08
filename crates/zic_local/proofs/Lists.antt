-- Lists of just the numbers with a property.
use Rattle.std.proofs.Common.{◌≡◌, ℕ, suc, zero, ◌<◌, ◌⊎◌, inl, inr, ℤ, ◌<ℤ◌, ◌≤ℤ◌, List, [], ◌∷◌, ◌++◌, length, get_or, refl, sym, subst, ap, ◌∙◌, arith}
use Rattle.std.specs.Prelude.{Contains}
use Rattle.std.proofs.lemmas.Int.{ints}
use Rattle.std.proofs.lemmas.List.{get_or_append_left, get_or_push, length_push}
use Rattle.std.proofs.lemmas.List.Elements.{Contains-get_or, Contains-append_left, Contains-push, Contains-push_cases}
use Rattle.std.proofs.lemmas.List.Quantifiers.{all_pairs_push}
use Rattle.zic_local.specs.LocalTime.{AreJust}

-- no number has the property
pub just_none : (P : ℤ → Type 0) → ((t : ℤ) → P t → ⊥) → AreJust P []
just_none P none = record {
  rising = λ i j d before within. absurd (omega (arith, within));
  just = λ t. (λ among. absurd (let within = among.1 in omega (arith, within)), λ has. absurd (none t has));
}

-- the property in other words
pub just_same : (P Q : ℤ → Type 0) (numbers : List ℤ) → ((t : ℤ) → P t → Q t) → ((t : ℤ) → Q t → P t) → AreJust P numbers → AreJust Q numbers
just_same P Q numbers to from are = record {
  rising = are.rising;
  just = λ t. (λ among. to t ((are.just t).0 among), λ has. (are.just t).1 (from t has));
}

-- one number more, above the others
pub just_more : (P Q : ℤ → Type 0) (numbers : List ℤ) (t : ℤ) → AreJust P numbers → ((u : ℤ) → P u → u <ℤ t) → Q t
    → ((u : ℤ) → P u → Q u) → ((u : ℤ) → Q u → P u ⊎ (t ≡ u)) → AreJust Q (numbers ++ t ∷ [])
just_more P Q numbers t are below here more cases = record {
  rising = all_pairs_push ◌<ℤ◌ numbers t are.rising
      (λ k d within. below (get_or numbers k d) ((are.just (get_or numbers k d)).0 (Contains-get_or numbers k d within)));
  just = λ u. (
    λ among. elim (Contains-push_cases numbers t u among) [
      | inl old ↦ more u ((are.just u).0 old)
      | inr new ↦ subst Q new here
    ],
    λ has. elim (cases u has) [
      | inl old ↦ Contains-append_left numbers (t ∷ []) u ((are.just u).1 old)
      | inr new ↦ subst (λ (z : ℤ). Contains (numbers ++ t ∷ []) z) new (Contains-push numbers t)
    ],
  );
}

-- ---- the first and the last

pub head_is : (P : ℤ → Type 0) (first : ℤ) (later : List ℤ) → AreJust P (first ∷ later) → P first
head_is P first later are = (are.just first).0 (0, omega arith, refl)

least_at : (P : ℤ → Type 0) (first : ℤ) (later : List ℤ) → AreJust P (first ∷ later) → (t : ℤ) (k : ℕ) → k < length (first ∷ later)
    → get_or (first ∷ later) k t ≡ t → first ≤ℤ t
least_at P first later are t zero within here = omega (arith, ints, here)
least_at P first later are t (suc k) within here =
    let rising : first <ℤ get_or (first ∷ later) (suc k) t = are.rising 0 (suc k) t (omega arith) within in
    omega (arith, ints, rising, here)

pub least : (P : ℤ → Type 0) (first : ℤ) (later : List ℤ) → AreJust P (first ∷ later) → (t : ℤ) → P t → first ≤ℤ t
least P first later are t has = let among = (are.just t).1 has in least_at P first later are t among.0 among.1 among.2

pub last_is : (P : ℤ → Type 0) (earlier : List ℤ) (last : ℤ) → AreJust P (earlier ++ last ∷ []) → P last
last_is P earlier last are = (are.just last).0 (Contains-push earlier last)

-- what stands earlier in the list is below
pub below_last : (P : ℤ → Type 0) (earlier : List ℤ) (last : ℤ) → AreJust P (earlier ++ last ∷ []) → (t : ℤ) → Contains earlier t → t <ℤ last
below_last P earlier last are t old =
    let all = earlier ++ last ∷ [] in
    let rising : get_or all old.0 t <ℤ get_or all (length earlier) t =
    are.rising old.0 (length earlier) t old.1 (let size = length_push earlier last in omega (arith, size)) in
    let left = get_or_append_left earlier (last ∷ []) t old.0 old.1 in
    let end = get_or_push earlier last t (length earlier) refl in
    let here = old.2 in
    omega (arith, ints, rising, left, end, here)

pub greatest : (P : ℤ → Type 0) (earlier : List ℤ) (last : ℤ) → AreJust P (earlier ++ last ∷ []) → (t : ℤ) → P t → t ≤ℤ last
greatest P earlier last are t has = elim (Contains-push_cases earlier last t ((are.just t).1 has)) [
  | inl old ↦ let below = below_last P earlier last are t old in omega (arith, ints, below)
  | inr same ↦ omega (arith, ints, same)
]

-- ---- one list

pub not_empty : (P : ℤ → Type 0) → AreJust P [] → (t : ℤ) → P t → ⊥
not_empty P are t has = let among = (are.just t).1 has in let within = among.1 in omega (arith, within)

later_at : (P : ℤ → Type 0) (first : ℤ) (later : List ℤ) → AreJust P (first ∷ later) → (t : ℤ) → first <ℤ t → (k : ℕ)
    → k < length (first ∷ later) → get_or (first ∷ later) k t ≡ t → Contains later t
later_at P first later are t above zero within here = absurd (omega (arith, ints, above, here))
later_at P first later are t above (suc k) within here = (k, omega (arith, within), here)

abbrev IsAbove : (ℤ → Type 0) → ℤ → ℤ → Type 0
IsAbove P first t = P t × (first <ℤ t)

rest : (P : ℤ → Type 0) (first : ℤ) (later : List ℤ) → AreJust P (first ∷ later) → AreJust (IsAbove P first) later
rest P first later are = record {
  rising = λ i j d before within. are.rising (suc i) (suc j) d (omega (arith, before)) (omega (arith, within));
  just = λ t. (
    λ among.
        let within : suc among.0 < length (first ∷ later) = let inside = among.1 in omega (arith, inside) in
        let rising : first <ℤ get_or (first ∷ later) (suc among.0) t = are.rising 0 (suc among.0) t (omega arith) within in
        let here : get_or (first ∷ later) (suc among.0) t ≡ t = among.2 in
        ((are.just t).0 (suc among.0, within, here), omega (arith, ints, rising, here)),
    λ has. let among = (are.just t).1 has.0 in later_at P first later are t has.1 among.0 among.1 among.2,
  );
}

pub just_once : (P : ℤ → Type 0) (a b : List ℤ) → AreJust P a → AreJust P b → a ≡ b
just_once P [] [] are other = refl
just_once P [] (y ∷ ys) are other = absurd (not_empty P are y (head_is P y ys other))
just_once P (x ∷ xs) [] are other = absurd (not_empty P other x (head_is P x xs are))
just_once P (x ∷ xs) (y ∷ ys) are other =
    let low = least P x xs are y (head_is P y ys other) in
    let high = least P y ys other x (head_is P x xs are) in
    let same : y ≡ x = omega (arith, ints, low, high) in
    let others : AreJust (IsAbove P x) ys = subst (λ (z : ℤ). AreJust (IsAbove P z) ys) same (rest P y ys other) in
    let later = just_once (IsAbove P x) xs ys (rest P x xs are) others in
    ap (λ (zs : List ℤ). x ∷ zs) later ∙ ap (λ (z : ℤ). z ∷ ys) (sym same)
