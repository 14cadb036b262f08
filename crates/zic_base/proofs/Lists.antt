-- Lists.
use Rattle.std.proofs.Common.{◌≡◌, ℕ, ◌+◌, ◌<◌, Bool, ◌||◌, List, [], ◌∷◌, ◌++◌, map, take, Some, refl, ap, ◌∙◌, arith}
use Rattle.std.specs.Prelude.{Contains, slice_get}
use Rattle.std.specs.List.{list_any}
use Rattle.std.proofs.lemmas.List.{length-map, length-take, get_or-map, get_or-take, take_more}
use Rattle.std.proofs.lemmas.List.Elements.{Contains-append_right}
use Rattle.std.proofs.lemmas.Option.{slice_get_within, slice_get-get_or, get_or_from_slice_get}
use Rattle.zic_base.proofs.Elements.{first_contained}

-- what is the same for each member
pub map_same : {X Y : Type 0} (f g : X → Y) (xs : List X) → ((x : X) → Contains xs x → f x ≡ g x) → map f xs ≡ map g xs
map_same f g [] each = refl
map_same f g (x ∷ xs) each =
    let head = each x (first_contained x xs) in
    let rest = map_same f g xs (λ y has. each y (Contains-append_right (x ∷ []) xs y has)) in
    λ k. head k ∷ rest k

-- whether some image passes
pub any_map : {X Y : Type 0} (p : Y → Bool) (f : X → Y) (xs : List X) → list_any p (map f xs) ≡ list_any (λ x. p (f x)) xs
any_map p f [] = refl
any_map p f (x ∷ xs) = ap (λ b. p (f x) || b) (any_map p f xs)

-- one more member from the front
pub take_next : {X : Type 0} (xs : List X) (i : ℕ) (x : X) → slice_get xs i ≡ Some x → take (i + 1) xs ≡ take i xs ++ x ∷ []
take_next xs i x at = take_more xs i x (slice_get_within xs i x at) ∙ ap (λ y. take i xs ++ y ∷ []) (get_or_from_slice_get xs i x x at)

-- a member of the front
pub get_taken : {X : Type 0} (xs : List X) (n i : ℕ) (x : X) → slice_get xs i ≡ Some x → i < n → slice_get (take n xs) i ≡ Some x
get_taken {X} xs n i x at lt =
    let within = slice_get_within xs i x at in
    slice_get-get_or (take n xs) i x (omega (arith, length-take n xs)) ∙ ap (λ (y : X). Some y) (get_or-take n xs i x lt ∙ get_or_from_slice_get xs i x x at)

-- the image of a member
pub get_mapped : {X Y : Type 0} (f : X → Y) (xs : List X) (i : ℕ) (x : X) → slice_get xs i ≡ Some x → slice_get (map f xs) i ≡ Some (f x)
get_mapped {X} {Y} f xs i x at =
    let within = slice_get_within xs i x at in
    slice_get-get_or (map f xs) i (f x) (omega (arith, length-map xs f))
    ∙ ap (λ (y : Y). Some y) (get_or-map f xs i x (f x) within ∙ ap f (get_or_from_slice_get xs i x x at))
