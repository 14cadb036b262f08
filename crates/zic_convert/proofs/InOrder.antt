-- Pieces that one thread performs in order.
use Rattle.std.proofs.Common.{◌≡◌, ◌⊎◌, ◌∙◌, ℕ, zero, suc, ◌+◌, ◌<◌, List, [], ◌∷◌, ◌++◌, length, false, Result, Ok, Err, inl, inr, ⊎_elim, refl, sym, ap, subst, arith}
use Rattle.std.proofs.lemmas.List.{length-append}
use Rattle.std.specs.Prelude.{if◌then◌else◌, is_err}
use Rattle.std.specs.Result.{is_ok}
use mathlib.Core.Option.{some, some-injective, some-ne-none}
use lib.ListN.{get_elem?}
use Rattle.zic_pieces.specs.Task.{AreValues, HaveValues}

-- what a list is once a value was added
pub pushed : {A E X : Type 0} (r : Result A E) (new old more : List X) → is_err r ≡ false → new ≡ (if is_ok r then more else old) → new ≡ more
pushed (Ok a) new old more e is = is
pushed (Err b) new old more e is = absurd (cc e)

module _ {X F : Type 0} (outcome : ℕ → Result X F → Type 0) where
  at_last : (xs : List X) (x y : X) (i : ℕ) → get_elem? (xs ++ x ∷ []) i ≡ some y → (get_elem? xs i ≡ some y) ⊎ ((i ≡ length xs) × (x ≡ y))
  at_last [] x y zero e = inr (refl, some-injective x y e)
  at_last [] x y (suc i) e = absurd (some-ne-none y (sym e))
  at_last (z ∷ zs) x y zero e = inl e
  at_last (z ∷ zs) x y (suc i) e = ⊎_elim inl (λ at. inr (ap suc at.0, at.1)) (at_last zs x y i e)

  there : (xs : List X) (i : ℕ) → i < length xs → (x : X) × (get_elem? xs i ≡ some x)
  there [] i low = absurd (omega (arith, low))
  there (x ∷ xs) zero low = (x, refl)
  there (x ∷ xs) (suc i) low = there xs i (omega (arith, low))

  -- one value more
  pub value_more : (i : ℕ) (xs : List X) (x : X) → AreValues outcome i xs → outcome i (Ok x) → AreValues outcome (i + 1) (xs ++ x ∷ [])
  value_more i xs x are is = (
    omega (arith, length-append xs (x ∷ []), are.0),
    λ j y e. ⊎_elim (λ at. are.1 j y at)
        (λ at. subst (λ (n : ℕ). outcome n (Ok y)) (sym (at.0 ∙ are.0)) (subst (λ (z : X). outcome i (Ok z)) at.1 is))
        (at_last xs x y j e),
  )

  -- each piece below has one
  pub values_below : (i : ℕ) (xs : List X) → AreValues outcome i xs → HaveValues outcome i
  values_below i xs are j low = let at = there xs j (omega (arith, are.0, low)) in (at.0, are.1 j at.0 at.1)
