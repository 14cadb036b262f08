-- Elements of lists.
use Rattle.std.proofs.Common.{◌≡◌, ◌<◌, ℕ, zero, suc, Bool, true, ◌⊎◌, inl, inr, ⊎_elim, All, List, [], ◌∷◌, length, get_or, map, Some, refl, sym, ap, subst, ◌∙◌, arith}
use Rattle.std.specs.Prelude.{Contains, flat_map, slice_get}
use Rattle.std.specs.List.{list_any}
use Rattle.std.proofs.lemmas.Bool.{or_cases}
use Rattle.std.proofs.lemmas.List.Folds.{list_any_at}
use Rattle.std.proofs.lemmas.List.Elements.{Contains-append_left, Contains-append_right, Contains-append_cases, Contains-get_or}
use Rattle.std.proofs.lemmas.Option.{slice_get-get_or, slice_get_within, get_or_from_slice_get}

pub get_contained : {A : Type 0} (xs : List A) (x : A) (has : Contains xs x) → slice_get xs has.0 ≡ Some x
get_contained xs x has = slice_get-get_or xs has.0 x has.1 ∙ ap (λ (y : _). Some y) has.2

pub contains_got : {A : Type 0} (xs : List A) (i : ℕ) (x : A) → slice_get xs i ≡ Some x → Contains xs x
contains_got xs i x e = (i, slice_get_within xs i x e, get_or_from_slice_get xs i x x e)

-- what holds of all elements holds of the one of a number
pub all_got : {A : Type 0} (P : A → Type 0) (xs : List A) (i : ℕ) (x : A) → All P xs → slice_get xs i ≡ Some x → P x
all_got P xs i x all e = subst P (get_or_from_slice_get xs i x x e) (all i x (slice_get_within xs i x e))

-- an element of each number is there
pub got : {A : Type 0} (xs : List A) (i : ℕ) → i < length xs → (x : A) × (slice_get xs i ≡ Some x)
got [] i lt = absurd (omega arith)
got (x ∷ xs) zero lt = (x, refl)
got (x ∷ xs) (suc i) lt = got xs i (omega arith)

-- what holds of each element holds of all
pub all_if_each : {X : Type 0} (P : X → Type 0) (xs : List X) → ((x : X) → Contains xs x → P x) → All P xs
all_if_each P xs holds k d lt = holds (get_or xs k d) (Contains-get_or xs k d lt)

pub first_contained : {A : Type 0} (x : A) (xs : List A) → Contains (x ∷ xs) x
first_contained x xs = (0, omega arith, refl)

pub cons_cases : {A : Type 0} (y : A) (xs : List A) (x : A) → Contains (y ∷ xs) x → (y ≡ x) ⊎ Contains xs x
cons_cases y xs x (zero, lt, e) = inl e
cons_cases y xs x (suc k, lt, e) = inr (k, omega arith, e)

pub only_one : {A : Type 0} (one x : A) → Contains (one ∷ []) x → one ≡ x
only_one one x has = ⊎_elim (λ same. same) (λ none. absurd (omega (arith, none.1))) (cons_cases one [] x has)

pub from_flat_map : {X A : Type 0} (f : X → List A) (xs : List X) (a : A) → Contains (flat_map f xs) a → (x : X) × Contains xs x × Contains (f x) a
from_flat_map f [] a has = absurd (omega (arith, has.1))
from_flat_map f (x ∷ xs) a has = ⊎_elim
    (λ here. (x, first_contained x xs, here))
    (λ later. let rest = from_flat_map f xs a later in (rest.0, Contains-append_right (x ∷ []) xs rest.0 rest.1, rest.2))
    (Contains-append_cases (f x) (flat_map f xs) a has)

pub into_flat_map : {X A : Type 0} (f : X → List A) (xs : List X) (x : X) (a : A) → Contains xs x → Contains (f x) a → Contains (flat_map f xs) a
into_flat_map f [] x a has at = absurd (omega (arith, has.1))
into_flat_map f (y ∷ xs) x a has at = ⊎_elim
    (λ same. Contains-append_left (f y) (flat_map f xs) a (subst (λ (z : _). Contains (f z) a) (sym same) at))
    (λ later. Contains-append_right (f y) (flat_map f xs) a (into_flat_map f xs x a later at))
    (cons_cases y xs x has)

pub into_map : {X A : Type 0} (f : X → A) (xs : List X) (x : X) → Contains xs x → Contains (map f xs) (f x)
into_map f [] x has = absurd (omega (arith, has.1))
into_map f (y ∷ xs) x has = ⊎_elim
    (λ same. subst (λ (z : _). Contains (map f (y ∷ xs)) (f z)) same (first_contained (f y) (map f xs)))
    (λ later. Contains-append_right (f y ∷ []) (map f xs) (f x) (into_map f xs x later))
    (cons_cases y xs x has)

-- ---- elements that pass a test

pub contained_passes : {A : Type 0} (test : A → Bool) (xs : List A) (x : A) → Contains xs x → test x ≡ true → list_any test xs ≡ true
contained_passes test xs x (i, lt, at) e = list_any_at test xs i x lt (ap test at ∙ e)

pub one_that_passes : {A : Type 0} (test : A → Bool) (xs : List A) → list_any test xs ≡ true → (x : A) × Contains xs x × (test x ≡ true)
one_that_passes test [] e = absurd cc
one_that_passes test (x ∷ xs) e = ⊎_elim
    (λ here. (x, first_contained x xs, here))
    (λ later. let rest = one_that_passes test xs later in (rest.0, Contains-append_right (x ∷ []) xs rest.0 rest.1, rest.2))
    (or_cases (test x) (list_any test xs) e)
