-- Members of a list by first use.
use Rattle.std.proofs.Common.{◌≡◌, ◌<◌, Bool, true, false, cond, not, ◌||◌, inl, inr, List, [], ◌∷◌, ◌++◌, length, get_or, Some, refl, sym, ap, ◌∙◌, arith}
use Rattle.std.specs.Prelude.{slice_get}
use Rattle.std.specs.Bool.{Decides}
use Rattle.std.specs.List.{list_any, filter}
use Rattle.std.proofs.lemmas.Bool.{cases_Bool, both_ways, false_from_ne_true, false≢true}
use Rattle.std.proofs.lemmas.List.{append-nil, length-append, get_or_at}
use Rattle.std.proofs.lemmas.List.Elements.{filter-append}
use Rattle.std.proofs.lemmas.List.Sums.{take_while-cons}
use Rattle.std.proofs.lemmas.Option.{slice_get-get_or}
use Rattle.zic_table.specs.ContentOf.{firsts, before}
use Rattle.zic_table.specs.code.Firsts.{with_new}

-- ---- tests

filter_one : {A : Type 0} (p : A → Bool) (y : A) (s b : Bool) → p y ≡ not s → filter p (cond b [] (y ∷ [])) ≡ cond (s || b) [] (y ∷ [])
filter_one p y true true e = refl
filter_one p y true false e = rw e refl
filter_one p y false true e = refl
filter_one p y false false e = rw e refl

-- a filter that keeps all that pass a test keeps whether some do
any_filter : {A : Type 0} (p test : A → Bool) → ((z : A) → test z ≡ true → p z ≡ true) → (zs : List A) → list_any test (filter p zs) ≡ list_any test zs
any_filter p test keeps [] = refl
any_filter p test keeps (z ∷ zs) = elim (cases_Bool (p z)) [
  | inl e ↦ rw e (ap (λ b. test z || b) (any_filter p test keeps zs))
  | inr e ↦
      let apart : test z ≡ false = false_from_ne_true (test z) (λ t. both_ways (p z) e (keeps z t)) in
      rw (e, apart) (any_filter p test keeps zs)
]

module _ {A : Type 0} (same : A → A → Bool) where
  -- ---- one more

  firsts_more : (xs : List A) (y : A) → firsts same (xs ++ y ∷ []) ≡ firsts same xs ++ cond (list_any (λ x. same x y) xs) [] (y ∷ [])
  firsts_more [] y = refl
  firsts_more (x ∷ xs) y =
      let keep = λ (z : A). not (same x z) in
      let b = list_any (λ z. same z y) xs in
      ap (λ l. x ∷ l)
      (ap (filter keep) (firsts_more xs y) ∙ filter-append keep (firsts same xs) (cond b [] (y ∷ []))
      ∙ ap (λ l. filter keep (firsts same xs) ++ l) (filter_one keep y (same x y) b refl))

  choose : (xs : List A) (y : A) (b c : Bool) → c ≡ b → xs ++ cond b [] (y ∷ []) ≡ cond c xs (xs ++ y ∷ [])
  choose xs y true c e = rw e (append-nil xs)
  choose xs y false c e = rw e refl

  -- more members add to the end
  pub firsts_grow : (xs ys : List A) → (more : List A) × (firsts same (xs ++ ys) ≡ firsts same xs ++ more)
  firsts_grow [] ys = (firsts same ys, refl)
  firsts_grow (x ∷ xs) ys =
      let keep = λ (z : A). not (same x z) in
      let (more, e) = firsts_grow xs ys in
      (filter keep more, ap (λ l. x ∷ l) (ap (filter keep) e ∙ filter-append keep (firsts same xs) more))

  pub with_new_grows : (xs : List A) (y : A) → (more : List A) × (with_new same xs y ≡ xs ++ more)
  with_new_grows xs y =
      let b = list_any (λ x. same x y) xs in
      (cond b [] (y ∷ []), sym (choose xs y b b refl))

  -- ---- what stands before a member

  before_stops : (x : A) (xs : List A) (y : A) → same x y ≡ true → before same (x ∷ xs) y ≡ []
  before_stops x xs y e = take_while-cons (λ z. not (same z y)) x xs ∙ rw e refl

  before_goes : (x : A) (xs : List A) (y : A) → same x y ≡ false → before same (x ∷ xs) y ≡ x ∷ before same xs y
  before_goes x xs y e = take_while-cons (λ z. not (same z y)) x xs ∙ rw e refl

  any_rest : (x : A) (xs : List A) (y : A) → same x y ≡ false → list_any (λ z. same z y) (x ∷ xs) ≡ true → list_any (λ z. same z y) xs ≡ true
  any_rest x xs y apart e = rw apart at e

  -- what comes later doesn't matter to a member
  pub before_append : (xs ys : List A) (y : A) → list_any (λ x. same x y) xs ≡ true → before same (xs ++ ys) y ≡ before same xs y
  before_append [] ys y e = absurd (false≢true e)
  before_append (x ∷ xs) ys y e = elim (cases_Bool (same x y)) [
    | inl s ↦ before_stops x (xs ++ ys) y s ∙ sym (before_stops x xs y s)
    | inr apart ↦
        before_goes x (xs ++ ys) y apart ∙ ap (λ l. x ∷ l) (before_append xs ys y (any_rest x xs y apart e)) ∙ sym (before_goes x xs y apart)
  ]

  -- all stand before a new one
  pub before_new : (xs : List A) (y : A) → list_any (λ x. same x y) xs ≡ false → same y y ≡ true → before same (xs ++ y ∷ []) y ≡ xs
  before_new [] y e itself = before_stops y [] y itself
  before_new (x ∷ xs) y e itself = elim (cases_Bool (same x y)) [
    | inl s ↦ absurd (both_ways (list_any (λ z. same z y) (x ∷ xs)) e (rw s refl))
    | inr apart ↦ before_goes x (xs ++ y ∷ []) y apart ∙ ap (λ l. x ∷ l) (before_new xs y (rw apart at e) itself)
  ]

  -- ---- where the test decides what is equal

  module _ (decides : (a b : A) → Decides (same a b) (a ≡ b)) where
    pub itself : (y : A) → same y y ≡ true
    itself y = (decides y y).1 refl

    -- the same members are there
    pub any_firsts : (xs : List A) (y : A) → list_any (λ x. same x y) (firsts same xs) ≡ list_any (λ x. same x y) xs
    any_firsts [] y = refl
    any_firsts (x ∷ xs) y = elim (cases_Bool (same x y)) [
      | inl e ↦ rw e refl
      | inr e ↦
          ap (λ b. same x y || b)
          (any_filter (λ z. not (same x z)) (λ z. same z y)
          (λ z t. let apart : same x z ≡ false = ap (same x) ((decides z y).0 t) ∙ e in rw apart refl)
          (firsts same xs) ∙ any_firsts xs y)
    ]

    -- one more at the end
    pub firsts_push : (xs : List A) (y : A) → firsts same (xs ++ y ∷ []) ≡ with_new same (firsts same xs) y
    firsts_push xs y =
        firsts_more xs y ∙ choose (firsts same xs) y (list_any (λ x. same x y) xs) (list_any (λ x. same x y) (firsts same xs)) (any_firsts xs y)

    -- a list, by a member
    pub split_at_member : (xs : List A) (y : A) → list_any (λ x. same x y) xs ≡ true → (rest : List A) × (xs ≡ before same xs y ++ y ∷ rest)
    split_at_member [] y e = absurd (false≢true e)
    split_at_member (x ∷ xs) y e = elim (cases_Bool (same x y)) [
      | inl s ↦ (xs, ap (λ z. z ∷ xs) ((decides x y).0 s) ∙ ap (λ l. l ++ y ∷ xs) (sym (before_stops x xs y s)))
      | inr apart ↦
          let (rest, is) = split_at_member xs y (any_rest x xs y apart e) in
          (rest, ap (λ l. x ∷ l) is ∙ ap (λ l. l ++ y ∷ rest) (sym (before_goes x xs y apart)))
    ]

    -- its place is in the list
    pub place_within : (xs : List A) (y : A) → list_any (λ x. same x y) xs ≡ true → length (before same xs y) < length xs
    place_within xs y e =
        let (rest, is) = split_at_member xs y e in
        omega (arith, ap (λ (l : List A). length l) is, length-append (before same xs y) (y ∷ rest))

    -- and has it
    pub at_place : (xs : List A) (y : A) → list_any (λ x. same x y) xs ≡ true → slice_get xs (length (before same xs y)) ≡ Some y
    at_place xs y e =
        let (rest, is) = split_at_member xs y e in
        let n = length (before same xs y) in
        slice_get-get_or xs n y (place_within xs y e) ∙ ap (λ (l : List A). Some (get_or l n y)) is ∙ ap (λ (z : A). Some z) (get_or_at (before same xs y) y rest y n refl)
