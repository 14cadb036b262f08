-- Sums over lists that are made of lists, and how often a name stands in a list.
use Rattle.std.proofs.Common.{◌≡◌, ◌≢◌, ℕ, suc, ⊎_elim, Some, ◌+◌, ◌≤◌, ◌<◌, Bool, true, false, cond, ltb, List, [], ◌∷◌, ◌++◌, length, get_or, take, refl, sym, ap, ◌∙◌, arith}
use Rattle.std.specs.Prelude.{◌||◌, flat_map, sum_by, count_by, bytes_eq, AllPairs, Contains, slice_get}
use Rattle.std.specs.List.{list_any}
use Rattle.std.proofs.lemmas.Bool.{cases_order, lt-ltb, ltb-true, ltb-false, false_from_ne_true}
use Rattle.std.proofs.lemmas.Grind.{flat_map-append}
use Rattle.std.proofs.lemmas.List.{length-take, get_or-take}
use Rattle.std.proofs.lemmas.List.Folds.{list_any_none}
use Rattle.std.proofs.lemmas.List.Sums.{sum_by-append, sum_by-cons, sum_by_more_le, get_or-le-sum_by}
use Rattle.std.proofs.lemmas.Option.{slice_get-get_or, slice_get_within, get_or_from_slice_get}
use Rattle.zic_base.proofs.Elements.{get_contained, contained_passes}
use Rattle.zic_source.proofs.SameBytes.{bytes_eq_means, bytes_eq_itself}

pub flat_map_twice : {X Y A : Type 0} (f : X → List Y) (g : Y → List A) (h : X → List A) → ((x : X) → flat_map g (f x) ≡ h x) → (xs : List X) → flat_map g (flat_map f xs) ≡ flat_map h xs
flat_map_twice f g h one [] = refl
flat_map_twice f g h one (x ∷ xs) =
    flat_map-append g (f x) (flat_map f xs) ∙ ap (λ (ys : List _). ys ++ flat_map g (flat_map f xs)) (one x) ∙ ap (λ (ys : List _). h x ++ ys) (flat_map_twice f g h one xs)

pub sum_flat_map : {X Y : Type 0} (f : X → List Y) (w : Y → ℕ) (h : X → ℕ) → ((x : X) → sum_by w (f x) ≡ h x) → (xs : List X) → sum_by w (flat_map f xs) ≡ sum_by h xs
sum_flat_map f w h one [] = refl
sum_flat_map f w h one (x ∷ xs) = omega (arith, sum_by-append w (f x) (flat_map f xs), sum_by-cons h x xs, one x, sum_flat_map f w h one xs)

-- ---- whether some pass, and how many

cons_counted : {X : Type 0} (p : X → Bool) (x : X) (xs : List X) (b : Bool) → p x ≡ b → count_by p (x ∷ xs) ≡ cond b 1 0 + count_by p xs
cons_counted p x xs b e = sum_by-cons (λ (y : _). cond (p y) 1 0) x xs ∙ ap (λ (b : Bool). cond b 1 0 + count_by p xs) e

any_more : (b rest : Bool) (n m : ℕ) → rest ≡ ltb 0 n → m ≡ cond b 1 0 + n → (b || rest) ≡ ltb 0 m
any_more true rest n m e f = sym (lt-ltb 0 m (omega arith))
any_more false rest n m e f = let same : n ≡ m = omega arith in e ∙ ap (ltb 0) same

pub any_counts : {X : Type 0} (p : X → Bool) (xs : List X) → list_any p xs ≡ ltb 0 (count_by p xs)
any_counts p [] = refl
any_counts p (x ∷ xs) = any_more (p x) (list_any p xs) (count_by p xs) (count_by p (x ∷ xs)) (any_counts p xs) (cons_counted p x xs (p x) refl)

pub passes_counted : {X : Type 0} (p : X → Bool) (xs : List X) (x : X) → Contains xs x → p x ≡ true → 0 < count_by p xs
passes_counted p xs x has e = ltb-true 0 (count_by p xs) (sym (any_counts p xs) ∙ contained_passes p xs x has e)

two_counted : {X : Type 0} (p : X → Bool) (xs : List X) (i j : ℕ) (a b : X) → slice_get xs i ≡ Some a → slice_get xs j ≡ Some b → i < j → p a ≡ true → p b ≡ true → 2 ≤ count_by p xs
two_counted {X} p xs i j a b at_a at_b lt e f =
    let one : X → ℕ = λ x. cond (p x) 1 0 in
    let first : one (get_or (take j xs) i a) ≡ 1 = ap one (get_or-take j xs i a lt ∙ get_or_from_slice_get xs i a a at_a) ∙ ap (λ (b : Bool). cond b 1 0) e in
    let second : one (get_or xs j a) ≡ 1 = ap one (get_or_from_slice_get xs j b a at_b) ∙ ap (λ (b : Bool). cond b 1 0) f in
    let within : j < length xs = slice_get_within xs j b at_b in
    omega (arith, sum_by_more_le one xs j a within, get_or-le-sum_by one (take j xs) i a (omega (arith, length-take j xs)))

-- where at most one element passes, elements that pass are one
pub one_passes : {X : Type 0} (p : X → Bool) (xs : List X) (a b : X) → count_by p xs ≤ 1 → Contains xs a → Contains xs b → p a ≡ true → p b ≡ true → a ≡ b
one_passes p xs a b few has_a has_b e f =
    let i : ℕ = has_a.0 in
    let j : ℕ = has_b.0 in
    let at_a : slice_get xs i ≡ Some a = get_contained xs a has_a in
    let at_b : slice_get xs j ≡ Some b = get_contained xs b has_b in
    ⊎_elim
    (λ same. let one : slice_get xs i ≡ slice_get xs j = ap (slice_get xs) same in cc)
    (λ apart. absurd (⊎_elim
    (λ lt. let two = two_counted p xs i j a b at_a at_b lt e f in omega (arith, two))
    (λ gt. let two = two_counted p xs j i b a at_b at_a gt f e in omega (arith, two))
    apart))
    (cases_order i j)

-- ---- names

-- how often the name is there
abbrev pub times : List ℕ → List (List ℕ) → ℕ
times name names = count_by (λ other. bytes_eq other name) names

-- names of which each is there once differ
pub once_differ : (names : List (List ℕ)) → ((name : List ℕ) → times name names ≤ 1) → AllPairs (λ a b. a ≢ b) names
once_differ names once i j d lt within same =
    let own : List ℕ = get_or names i d in
    let two = two_counted (λ (other : List ℕ). bytes_eq other own) names i j own (get_or names j d) (slice_get-get_or names i d (omega arith)) (slice_get-get_or names j d within) lt
    (bytes_eq_itself own) (ap (λ (other : List ℕ). bytes_eq other own) (sym same) ∙ bytes_eq_itself own) in
    omega (arith, two, once own)

first_once : (own : List ℕ) (names : List (List ℕ)) (name : List ℕ) → AllPairs (λ a b. a ≢ b) (own ∷ names) → times name names ≤ 1 → (b : Bool) → bytes_eq own name ≡ b → times name (own ∷ names) ≤ 1
first_once own names name differ rest true e =
    let none : list_any (λ (other : List ℕ). bytes_eq other name) names ≡ false = list_any_none _ names
    (λ k d lt. false_from_ne_true _ (λ same. differ 0 (suc k) d (omega arith) (omega arith) (bytes_eq_means own name e ∙ sym (bytes_eq_means (get_or names k d) name same)))) in
    omega (arith, cons_counted (λ (other : List ℕ). bytes_eq other name) own names _ e, ltb-false 0 (times name names) (sym (any_counts _ names) ∙ none))
first_once own names name differ rest false e = omega (arith, cons_counted (λ (other : List ℕ). bytes_eq other name) own names _ e, rest)

-- names that differ are there once each
pub differ_once : (names : List (List ℕ)) → AllPairs (λ a b. a ≢ b) names → (name : List ℕ) → times name names ≤ 1
differ_once [] differ name = omega arith
differ_once (own ∷ names) differ name =
    first_once own names name differ (differ_once names (λ i j d lt within. differ (suc i) (suc j) d (omega arith) (omega arith)) name) (bytes_eq own name) refl
