-- Where designations begin, from the last byte back to the first.
use Rattle.std.proofs.Common.{◌≡◌, ℕ, suc, ◌+◌, ◌<◌, ◌≤◌, Bool, true, false, ◌&&◌, ◌||◌, ◌⊎◌, inl, inr, ◌≢◌, set, List, ◌∷◌, length, drop, take, get_or, drop-cons, refl, sym, ap, ap₂, ◌∙◌, arith}
use Rattle.std.specs.Prelude.{nat_le, nat_lt, ◌==◌}
use Rattle.std.specs.List.{list_all, list_any, before_first, position_or_len}
use Rattle.std.proofs.lemmas.Bool.{le-ltb, ltb-true, ltb-false}
use Rattle.std.proofs.lemmas.List.{drop_all, get_or-set_same, get_or-set_other}
use Rattle.zic_tzif.specs.Designation.{is_designated}

abbrev is_nul : ℕ → Bool
is_nul b = b == 0

abbrev is_printable : ℕ → Bool
is_printable b = nat_le 32 b && nat_le b 126

-- a designation begins where these bytes do
abbrev begins : List ℕ → Bool
begins xs = list_any is_nul xs && list_all is_printable (before_first is_nul xs)

swap : (any all printable : Bool) → (any && (printable && all)) ≡ ((any && all) && printable)
swap false all printable = refl
swap true true true = refl
swap true true false = refl
swap true false true = refl
swap true false false = refl

begins_by : (x : ℕ) (xs : List ℕ) (nul : Bool) → is_nul x ≡ nul → begins (x ∷ xs) ≡ (nul || (begins xs && is_printable x))
begins_by x xs true e = rw e refl
begins_by x xs false e =
    let one : 1 + position_or_len is_nul xs ≡ suc (position_or_len is_nul xs) = omega arith in
    let front : before_first is_nul (x ∷ xs) ≡ x ∷ before_first is_nul xs = rw e (ap (λ n. take n (x ∷ xs)) one) in
    let any : list_any is_nul (x ∷ xs) ≡ list_any is_nul xs = rw e refl in
    ap₂ (λ (a : Bool) (ys : List ℕ). a && list_all is_printable ys) any front ∙ swap (list_any is_nul xs) (list_all is_printable (before_first is_nul xs)) (is_printable x)

-- after the last byte none begins
pub nothing_after : (names : List ℕ) (place : ℕ) → length names ≤ place → is_designated names place ≡ false
nothing_after names place le = rw le-ltb refl

at_drop : (names : List ℕ) (place : ℕ) (inside : Bool) → nat_lt place (length names) ≡ inside → is_designated names place ≡ begins (drop place names)
at_drop names place true e = rw e refl
at_drop names place false e =
    let none : begins (drop place names) ≡ false = ap begins (drop_all place names (ltb-false place (length names) e)) in
    rw e (sym none)

-- at a place one begins at a NUL, or at a printable byte before a place where one does
pub begins_here : (names : List ℕ) (place : ℕ) → place < length names → is_designated names place ≡ ((get_or names place 0 == 0) || (is_designated names (place + 1) && (nat_le 32 (get_or names place 0) && nat_le (get_or names place 0) 126)))
begins_here names place lt =
    let x = get_or names place 0 in
    let next : suc place ≡ place + 1 = omega arith in
    let rest : drop place names ≡ x ∷ drop (place + 1) names = drop-cons names place 0 lt ∙ ap (λ n. x ∷ drop n names) next in
    at_drop names place (nat_lt place (length names)) refl ∙ ap begins rest ∙ begins_by x (drop (place + 1) names) (is_nul x) refl
    ∙ ap (λ (b : Bool). is_nul x || (b && is_printable x)) (sym (at_drop names (place + 1) (nat_lt (place + 1) (length names)) refl))

here_or_after : (p k : ℕ) (t : Bool) → nat_lt p k ≡ t → p ≤ k → (k ≡ p) ⊎ (p + 1 ≤ k)
here_or_after p k true e le = inr (omega (arith, ltb-true p k e))
here_or_after p k false e le = inl (omega (arith, ltb-false p k e))

-- a table of places that is right after a place, with this place put in
pub known_more : (names : List ℕ) (places : List Bool) (p : ℕ) (b : Bool) → length places ≡ 256 → p < 256 → b ≡ is_designated names p → ((k : ℕ) → p + 1 ≤ k → k < 256 → get_or places k false ≡ is_designated names k)
    → (k : ℕ) → p ≤ k → k < 256 → get_or (set places p b) k false ≡ is_designated names k
known_more names places p b size within is known k le lt =
    elim (here_or_after p k (nat_lt p k) refl le) [
      | inl here ↦ (let inside : p < length places = omega arith in ap (λ j. get_or (set places p b) j false) here ∙ get_or-set_same places p b false inside ∙ is ∙ ap (is_designated names) (sym here))
      | inr following ↦ (let other : k ≢ p = omega arith in get_or-set_other places p k b false other ∙ known k following lt)
    ]
