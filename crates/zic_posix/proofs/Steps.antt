-- Steps of a reading, and what stands at the start of a text.
use Rattle.std.proofs.Common.{◌≡◌, ℕ, Bool, true, false, cond, eqb, Option, Some, None, List, [], ◌∷◌, ◌++◌, refl, ap, subst, ◌⊎◌, inl, inr}
use Rattle.std.proofs.lemmas.Bool.{eqb-true}
use Rattle.zic_base.specs.Option.{◌>>=◌}
use Rattle.zic_posix.specs.code.Reading.{after}

-- a step that gave a value
pub bind_some : {A B : Type 0} (o : Option A) (f : A → Option B) (y : B) → (o >>= f) ≡ Some y → (x : A) × (o ≡ Some x) × (f x ≡ Some y)
bind_some (Some x) f y e = (x, refl, e)
bind_some None f y e = absurd cc

-- a test that was passed
pub guard_some : {A : Type 0} (b : Bool) (x y : A) → cond b (Some x) None ≡ Some y → (b ≡ true) × (x ≡ y)
guard_some true x y e = (refl, cc)
guard_some false x y e = absurd cc

abbrev some : {A : Type 0} → A → Option A
some x = Some x

pub some_is : {A : Type 0} (x y : A) → some x ≡ some y → x ≡ y
some_is x y e = cc

-- which branch a choice took
pub branch : {A : Type 0} (b : Bool) (x y z : A) → cond b x y ≡ z → ((b ≡ true) × (x ≡ z)) ⊎ ((b ≡ false) × (y ≡ z))
branch true x y z e = inl (refl, e)
branch false x y z e = inr (refl, e)

-- the text doesn't begin with a byte that passes the test
abbrev pub NotFirst : (ℕ → Bool) → List ℕ → Type 0
NotFirst p [] = Unit {0}
NotFirst p (b ∷ rest) = p b ≡ false

-- the text begins with what spells, and the rest stands after it
pub record BeginsWith (Spells : List ℕ → Type 0) (text rest : List ℕ) : Type 0 where
  pub front : List ℕ
  pub parts : text ≡ front ++ rest
  pub spells : Spells front

-- a byte that was read stands there
pub after_takes : (byte : ℕ) (text rest : List ℕ) → after byte text ≡ Some rest → text ≡ byte ∷ rest
unfolding after
after_takes byte [] rest e = absurd cc
after_takes byte (b ∷ text) rest e =
    let g = guard_some (eqb b byte) text rest e in
    subst (λ (x : List ℕ). b ∷ text ≡ byte ∷ x) g.1 (ap (λ (c : ℕ). c ∷ text) (eqb-true b byte g.0))
