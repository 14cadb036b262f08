-- Sums over all passes.
use Rattle.std.proofs.Common.{◌≡◌, ◌≢◌, ℕ, zero, suc, ◌+◌, ◌≤◌, List, [], ◌∷◌, ◌++◌, max, set, refl, sym, ap, arith}
use mathlib.Core.Option.{some, some-injective, some-ne-none}
use lib.ListN.{get_elem?}
use Rattle.zic_pieces.specs.declared.pass.Event.{Event}
use Rattle.zic_pieces.specs.declared.pass.Known.{Known}
use Rattle.zic_pieces.specs.Events.{draws, drawn_by, past, weigh}
use Rattle.zic_pieces.specs.code.Core.{total}

-- one pass is changed
pub total_set : (f : Known → ℕ) (vs : List Known) (id : ℕ) (v w : Known) → get_elem? vs id ≡ some v → total f (set vs id w) + f v ≡ total f vs + f w
total_set f [] id v w e = absurd (some-ne-none v (sym e))
total_set f (x ∷ xs) zero v w e = let is : f x ≡ f v = ap f (some-injective x v e) in omega arith
total_set f (x ∷ xs) (suc id) v w e = let r = total_set f xs id v w e in omega arith

pub total_snoc : (f : Known → ℕ) (vs : List Known) (w : Known) → total f (vs ++ w ∷ []) ≡ total f vs + f w
total_snoc f [] w = omega arith
total_snoc f (x ∷ xs) w = let r = total_snoc f xs w in omega arith

pub total_at : (f : Known → ℕ) (vs : List Known) (id : ℕ) (v : Known) → get_elem? vs id ≡ some v → f v ≤ total f vs
total_at f [] id v e = absurd (some-ne-none v (sym e))
total_at f (x ∷ xs) zero v e = let is : f x ≡ f v = ap f (some-injective x v e) in omega arith
total_at f (x ∷ xs) (suc id) v e = let r = total_at f xs id v e in omega arith

pub total_two : (f : Known → ℕ) (vs : List Known) (i j : ℕ) (v w : Known) → j ≢ i → get_elem? vs i ≡ some v → get_elem? vs j ≡ some w → f v + f w ≤ total f vs
total_two f [] i j v w n e d = absurd (some-ne-none v (sym e))
total_two f (x ∷ xs) zero zero v w n e d = absurd (n refl)
total_two f (x ∷ xs) zero (suc j) v w n e d = let is : f x ≡ f v = ap f (some-injective x v e) in let r = total_at f xs j w d in omega arith
total_two f (x ∷ xs) (suc i) zero v w n e d = let is : f x ≡ f w = ap f (some-injective x w d) in let r = total_at f xs i v e in omega arith
total_two f (x ∷ xs) (suc i) (suc j) v w n e d = let r = total_two f xs i j v w (λ h. n (ap suc h)) e d in omega arith

-- where f is 0 of each pass, so is the total
pub total_none : (f : Known → ℕ) (vs : List Known) → ((j : ℕ) (u : Known) → get_elem? vs j ≡ some u → f u ≡ 0) → total f vs ≡ 0
total_none f [] z = refl
total_none f (x ∷ xs) z = let a = z 0 x refl in let r = total_none f xs (λ j u e. z (suc j) u e) in omega arith

-- where f is 0 of each other pass, the total is that of one
pub total_alone : (f : Known → ℕ) (vs : List Known) (id : ℕ) (v : Known) → get_elem? vs id ≡ some v → ((j : ℕ) (u : Known) → j ≢ id → get_elem? vs j ≡ some u → f u ≡ 0) → total f vs ≡ f v
total_alone f [] id v e z = absurd (some-ne-none v (sym e))
total_alone f (x ∷ xs) zero v e z = let is : f x ≡ f v = ap f (some-injective x v e) in let r = total_none f xs (λ j u d. z (suc j) u (λ h. omega arith) d) in omega arith
total_alone f (x ∷ xs) (suc id) v e z = let a = z 0 x (λ h. omega arith) refl in let r = total_alone f xs id v e (λ j u n d. z (suc j) u (λ h. n (omega arith)) d) in omega arith

pub weigh_append : (h : ℕ → ℕ) (xs ys : List ℕ) → weigh h (xs ++ ys) ≡ weigh h xs + weigh h ys
weigh_append h [] ys = omega arith
weigh_append h (x ∷ xs) ys = let r = weigh_append h xs ys in omega arith

-- the draws of two lists of events
pub weigh_draws : (h : ℕ → ℕ) (xs ys : List Event) → weigh h (draws (xs ++ ys)) ≡ weigh h (draws xs) + weigh h (draws ys)
weigh_draws h [] ys = omega arith
weigh_draws h (e ∷ es) ys = let r = weigh_draws h es ys in omega (arith, weigh_append h (drawn_by e) (draws (es ++ ys)), weigh_append h (drawn_by e) (draws es))

pub past_append : (xs ys : List Event) → past (xs ++ ys) ≡ max (past xs) (past ys)
past_append [] ys = omega arith
past_append (e ∷ es) ys = let r = past_append es ys in omega arith
