-- Lists put together, lists whose members differ, and lists that rise.
use Rattle.std.proofs.Common.{◌≡◌, ◌+◌, ℕ, zero, suc, ◌⊎◌, inl, inr, ⊎_elim, List, [], ◌∷◌, ◌++◌, length, get_or, map, Some, refl, sym, subst, ◌∙◌, arith}
use Rattle.std.specs.Prelude.{AllPairs, Contains, slice_get}
use Rattle.std.specs.List.{AllZip}
use Rattle.std.proofs.lemmas.Bool.{cases_order}
use Rattle.std.proofs.lemmas.List.{length-map}
use Rattle.std.proofs.lemmas.List.Elements.{Contains-append_right}
use Rattle.std.proofs.lemmas.Option.{slice_get_within, get_or_from_slice_get}
use Rattle.zic_base.proofs.Elements.{cons_cases, first_contained, got}
use Rattle.zic_base.proofs.Lists.{get_mapped}

-- what stands at a place of the first list, and at one of the second, where both are put together
pub at_left : {X : Type 0} (xs ys : List X) (k : ℕ) (x : X) → slice_get xs k ≡ Some x → slice_get (xs ++ ys) k ≡ Some x
at_left [] ys k x e = absurd cc
at_left (y ∷ xs) ys zero x e = e
at_left (y ∷ xs) ys (suc k) x e = at_left xs ys k x e

pub at_right : {X : Type 0} (xs ys : List X) (k : ℕ) (x : X) → slice_get ys k ≡ Some x → slice_get (xs ++ ys) (length xs + k) ≡ Some x
at_right {X} [] ys k x e = subst (λ (n : ℕ). slice_get ys n ≡ Some x) (omega arith) e
at_right {X} (y ∷ xs) ys k x e =
    let at : length (y ∷ xs) + k ≡ suc (length xs + k) = omega arith in
    subst (λ (n : ℕ). slice_get (y ∷ (xs ++ ys)) n ≡ Some x) (sym at) (at_right xs ys k x e)

-- members that differ stand once each
pub one_number : {X : Type 0} (xs : List X) → AllPairs (λ x y. x ≡ y → ⊥) xs → (i j : ℕ) (a b : X) → slice_get xs i ≡ Some a → slice_get xs j ≡ Some b → a ≡ b → i ≡ j
one_number xs differ i j a b at_i at_j same =
    let is_a = get_or_from_slice_get xs i a a at_i in
    let is_b = get_or_from_slice_get xs j b a at_j in
    elim (cases_order i j) [
      | inl equal ↦ equal
      | inr (inl before) ↦ absurd (differ i j a before (slice_get_within xs j b at_j) (is_a ∙ same ∙ sym is_b))
      | inr (inr after) ↦ absurd (differ j i a after (slice_get_within xs i a at_i) (is_b ∙ sym same ∙ sym is_a))
    ]

-- lists with the same members at the same places
pub same_lists : {X : Type 0} (xs ys : List X) → length xs ≡ length ys → ((k : ℕ) (x y : X) → slice_get xs k ≡ Some x → slice_get ys k ≡ Some y → x ≡ y) → xs ≡ ys
same_lists [] [] long same = refl
same_lists [] (y ∷ ys) long same = absurd (omega (arith, long))
same_lists (x ∷ xs) [] long same = absurd (omega (arith, long))
same_lists (x ∷ xs) (y ∷ ys) long same =
    let first = same 0 x y refl refl in
    let rest = same_lists xs ys (omega (arith, long)) (λ k a b at_a at_b. same (suc k) a b at_a at_b) in
    λ k. first k ∷ rest k

-- what is determined by a list's members is one list
pub one_zip : {X Y : Type 0} (Q : X → Y → Type 0) (xs : List X) (ys zs : List Y) → ((x : X) (y z : Y) → Q x y → Q x z → y ≡ z) → AllZip Q xs ys → AllZip Q xs zs → ys ≡ zs
one_zip Q [] [] [] one each other = refl
one_zip Q [] (y ∷ ys) zs one each other = absurd each
one_zip Q [] [] (z ∷ zs) one each other = absurd other
one_zip Q (x ∷ xs) [] zs one each other = absurd each
one_zip Q (x ∷ xs) (y ∷ ys) [] one each other = absurd other
one_zip Q (x ∷ xs) (y ∷ ys) (z ∷ zs) one each other =
    let first = one x y z each.0 other.0 in
    let rest = one_zip Q xs ys zs one each.1 other.1 in
    λ k. first k ∷ rest k

-- each member of the first list has one of the second
pub zipped : {X Y : Type 0} (Q : X → Y → Type 0) (xs : List X) (ys : List Y) → AllZip Q xs ys → (x : X) → Contains xs x → (y : Y) × Q x y
zipped Q [] ys each x has = absurd (omega (arith, has.1))
zipped Q (z ∷ xs) [] each x has = absurd each
zipped {X} {Y} Q (z ∷ xs) (y ∷ ys) each x has = ⊎_elim
    (λ same. (y, subst (λ (w : X). Q w y) same each.0))
    (λ later. zipped Q xs ys each.1 x later)
    (cons_cases z xs x has)

-- ---- lists that rise by a strict order

module _ {X : Type 0} (Less : X → X → Type 0) (strict : (x y : X) → Less x y → Less y x → ⊥) where
  above_first : (x : X) (xs : List X) → AllPairs Less (x ∷ xs) → (z : X) → Contains xs z → Less x z
  above_first x xs rising z (k, lt, at) = subst (Less x) at (rising 0 (suc k) z (omega arith) (omega arith))

  rest_rises : (x : X) (xs : List X) → AllPairs Less (x ∷ xs) → AllPairs Less xs
  rest_rises x xs rising = λ i j d lt within. rising (suc i) (suc j) d (omega arith) (omega arith)

  first_or_above : (x : X) (xs : List X) → AllPairs Less (x ∷ xs) → (z : X) → Contains (x ∷ xs) z → (x ≡ z) ⊎ Less x z
  first_or_above x xs rising z has = ⊎_elim (λ same. inl same) (λ later. inr (above_first x xs rising z later)) (cons_cases x xs z has)

  one_first : (x y : X) → (x ≡ y) ⊎ Less x y → (y ≡ x) ⊎ Less y x → x ≡ y
  one_first x y (inl same) other = same
  one_first x y (inr lt) (inl same) = sym same
  one_first x y (inr lt) (inr gt) = absurd (strict x y lt gt)

  -- what stands after the first of one list stands after that of the other
  into_rest : (x y : X) (xs ys : List X) → AllPairs Less (x ∷ xs) → x ≡ y → ((z : X) → Contains (x ∷ xs) z → Contains (y ∷ ys) z)
      → (z : X) → Contains xs z → Contains ys z
  into_rest x y xs ys rising same into z has = ⊎_elim
      (λ first. let above = subst (Less x) (sym (same ∙ first)) (above_first x xs rising z has) in absurd (strict x x above above))
      (λ later. later)
      (cons_cases y ys z (into z (Contains-append_right (x ∷ []) xs z has)))

  pub one_rising : (xs ys : List X) → AllPairs Less xs → AllPairs Less ys → ((z : X) → Contains xs z → Contains ys z)
      → ((z : X) → Contains ys z → Contains xs z) → xs ≡ ys
  one_rising [] [] rising rises into back = refl
  one_rising [] (y ∷ ys) rising rises into back = absurd (omega (arith, (back y (first_contained y ys)).1))
  one_rising (x ∷ xs) [] rising rises into back = absurd (omega (arith, (into x (first_contained x xs)).1))
  one_rising (x ∷ xs) (y ∷ ys) rising rises into back =
      let not_before = first_or_above x xs rising y (back y (first_contained y ys)) in
      let not_after = first_or_above y ys rises x (into x (first_contained x xs)) in
      let same = one_first x y not_before not_after in
      let rest_into = into_rest x y xs ys rising same into in
      let rest_back = into_rest y x ys xs rises (sym same) back in
      let rest = one_rising xs ys (rest_rises x xs rising) (rest_rises y ys rises) rest_into rest_back in
      λ k. same k ∷ rest k

-- members of a list that rises by a key, of one key, have one number
pub one_by_key : {X K : Type 0} (key : X → K) (Less : K → K → Type 0) → ((k : K) → Less k k → ⊥) → (xs : List X) → AllPairs (λ x y. Less (key x) (key y)) xs
    → (i j : ℕ) (x y : X) → slice_get xs i ≡ Some x → slice_get xs j ≡ Some y → key x ≡ key y → i ≡ j
one_by_key {X} {K} key Less apart xs rising i j x y at_x at_y same =
    one_number (map key xs) differ i j (key x) (key y) (get_mapped key xs i x at_x) (get_mapped key xs j y at_y) same where
      differ : AllPairs (λ a b. a ≡ b → ⊥) (map key xs)
      differ m n d lt within equal =
          let long = length-map xs key in
          let (a, at_a) = got xs m (omega (arith, long, lt, within)) in
          let (b, at_b) = got xs n (omega (arith, long, within)) in
          let before = subst (λ (z : X). Less (key z) (key (get_or xs n a))) (get_or_from_slice_get xs m a a at_a) (rising m n a lt (omega (arith, long, within))) in
          let below = subst (λ (z : X). Less (key a) (key z)) (get_or_from_slice_get xs n b a at_b) before in
          let is_a = get_or_from_slice_get (map key xs) m (key a) d (get_mapped key xs m a at_a) in
          let is_b = get_or_from_slice_get (map key xs) n (key b) d (get_mapped key xs n b at_b) in
          apart (key a) (subst (Less (key a)) (sym is_b ∙ sym equal ∙ is_a) below)
