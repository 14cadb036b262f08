-- Several passes, or workers, one after another.
use Rattle.std.proofs.Common.{◌≡◌, ℕ, zero, suc, ◌+◌, ◌<◌, List, [], ◌∷◌, ◌++◌, length, slice_index_or, Result, Ok, Err, IfOk, refl, sym, ap, ◌∙◌, subst, ⊎_elim, arith}
use mathlib.Core.Option.{some-injective, some-ne-none}
use Rattle.atomic_table.proofs.Lists.{at_last, at_longer, at_snoc}
use Rattle.zic_pieces.specs.declared.work.Worked.{Worked}
use Rattle.zic_pieces.specs.Passes.{Shared, Held}
use Rattle.zic_pieces.specs.code.Crew.{Each, parts_of, work_parts, HasEnded, HasWorked, DidWork}

module _ {A : Type 0} (P : A → Type 0) where
  pub each_none : Each P []
  each_none k x e = absurd (some-ne-none x (sym e))

  pub each_front : (xs : List A) (x : A) → Each P (xs ++ x ∷ []) → Each P xs
  each_front xs x all k y e = all k y (at_longer xs (x ∷ []) k y e)

  pub each_last : (xs : List A) (x : A) → Each P (xs ++ x ∷ []) → P x
  each_last xs x all = all (length xs) x (at_last xs x (length xs) refl)

  pub each_snoc : (xs : List A) (x : A) → Each P xs → P x → Each P (xs ++ x ∷ [])
  each_snoc xs x all last k y e = ⊎_elim (all k y) (λ (is : x ≡ y). subst P is last) (at_snoc xs x y k e)

pub parts_snoc : (ps : List Held) (p : Held) → parts_of (ps ++ p ∷ []) ≡ parts_of ps + p.known.parts
parts_snoc [] p = omega arith
parts_snoc (q ∷ qs) p = let r = parts_snoc qs p in omega arith

module _ {X F : Type 0} where
  pub work_parts_snoc : (ws : List (Worked X F)) (w : Worked X F) → work_parts (ws ++ w ∷ []) ≡ work_parts ws + w.pass.known.parts
  work_parts_snoc [] w = omega arith
  work_parts_snoc (q ∷ qs) w = let r = work_parts_snoc qs w in omega arith

  -- each worker did its work, and their passes stand for as many as those that they began with
  pub all_did : (o : ℕ → Result X F → Type 0) (claims : Shared) (ps : List Held) (ws : List (Worked X F)) → length ws ≡ length ps
      → ((i : ℕ) (d : Worked X F) (p : Held) → i < length ps → DidWork o claims (slice_index_or ps i p).known.parts (slice_index_or ws i d))
      → Each (λ w. HasEnded claims w × HasWorked o w) ws × (work_parts ws ≡ parts_of ps)
  all_did o claims [] [] same did = ((λ k x e. absurd (some-ne-none x (sym e))), refl)
  all_did o claims [] (w ∷ ws) same did = absurd (omega arith)
  all_did o claims (p ∷ ps) [] same did = absurd (omega arith)
  all_did o claims (p ∷ ps) (w ∷ ws) same did =
      let first = did 0 w p (omega arith) in
      let r = all_did o claims ps ws (omega arith) (λ i d q low. did (suc i) d q (omega arith)) in
      let parts = first.1 in
      let rest = r.1 in
      (each_more w ws (first.0, first.2) r.0, omega arith)
    where
      each_more : (w : Worked X F) (ws : List (Worked X F)) → HasEnded claims w × HasWorked o w → Each (λ w. HasEnded claims w × HasWorked o w) ws → Each (λ w. HasEnded claims w × HasWorked o w) (w ∷ ws)
      each_more w ws here rest zero x e = subst (λ u. HasEnded claims u × HasWorked o u) (some-injective w x e) here
      each_more w ws here rest (suc k) x e = rest k x e

  pub crew_of : (o : ℕ → Result X F → Type 0) (claims : Shared) (ps : List Held) (ws new : List (Worked X F)) (last : Worked X F) → ws ≡ new ++ last ∷ [] → length ws ≡ length ps
      → ((i : ℕ) (d : Worked X F) (p : Held) → i < length ps → DidWork o claims (slice_index_or ps i p).known.parts (slice_index_or ws i d))
      → (HasEnded claims last × HasWorked o last) × Each (λ w. HasEnded claims w × HasWorked o w) new × (last.pass.known.parts + work_parts new ≡ parts_of ps)
  crew_of o claims ps ws new last is same did =
      let all = all_did o claims ps ws same did in
      let each = subst (Each (λ w. HasEnded claims w × HasWorked o w)) is all.0 in
      let sum = all.1 in
      let cut = ap work_parts is in
      let snoc = work_parts_snoc new last in
      (each_last (λ w. HasEnded claims w × HasWorked o w) new last each, each_front (λ w. HasEnded claims w × HasWorked o w) new last each, omega arith)

  pub finished : {E : Type 0} → (o : ℕ → Result X F → Type 0) (claims : Shared) (n m : ℕ) (r : Result (Worked X F) E) → IfOk r (HasEnded claims) → IfOk r (λ w. w.pass.known.parts ≡ n) → IfOk r (HasWorked o) → n ≡ m → IfOk r (DidWork o claims m)
  finished o claims n m (Ok w) ended parts work is = (ended, parts ∙ is, work)
  finished o claims n m (Err e) ended parts work is = tt

-- what holds of each element, read at a place
pub read_each : {A : Type 0} (P : A → Type 0) (xs : List A) → Each P xs → (k : ℕ) (d : A) → k < length xs → P (slice_index_or xs k d)
read_each P [] all k d low = absurd (omega arith)
read_each P (x ∷ xs) all zero d low = all 0 x refl
read_each P (x ∷ xs) all (suc k) d low = read_each P xs (λ j y e. all (suc j) y e) k d (omega arith)
