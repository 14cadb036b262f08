-- The first of some faults.
use Rattle.std.proofs.Common.{◌≡◌, ◌+◌, ℕ, ◌⊎◌, inl, inr, ⊎_elim, List, [], ◌∷◌, ◌++◌, take, Option, Some, None, refl, sym, ap, subst, ◌∙◌}
use Rattle.std.specs.Prelude.{slice_get}
use Rattle.std.proofs.lemmas.List.{take_more}
use Rattle.std.proofs.lemmas.List.Elements.{Contains-append_left, Contains-push, Contains-push_cases}
use Rattle.std.proofs.lemmas.Option.{slice_get_within, get_or_from_slice_get}
use Rattle.zic_base.specs.declared.fault.Place.{Place}
use Rattle.zic_base.specs.declared.fault.Fault.{Fault}
use Rattle.zic_base.specs.Place.{IsBefore}
use Rattle.zic_source.specs.code.Faults.{IsEarlier, IsFirst, IsFirstOf}
use Rattle.zic_source.proofs.faults.Order.{AreOrdered, ordered, before_before, not_before_itself}

-- what stands before a place stands before each that doesn't
before_other : (a b c : Place) → IsBefore a c → (IsBefore b c → ⊥) → AreOrdered a b → IsBefore a b
before_other a b c before not_before (inl same) = absurd (not_before (subst (λ (p : Place). IsBefore p c) same before))
before_other a b c before not_before (inr (inl sooner)) = sooner
before_other a b c before not_before (inr (inr later)) = absurd (not_before (before_before b a c later before))

-- the only fault that there may be is the first
pub only_fault : (V : Type 0) (P : Fault → Type 0) (fault : Fault) → P fault → ((other : Fault) → P other → other.place ≡ fault.place) → IsFirst V P (Some fault)
only_fault V P fault has one = (has, λ other is before. not_before_itself fault.place (subst (λ (p : Place). IsBefore p fault.place) (one other is) before))

-- a fault is the earlier of itself and none
pub earlier_none : (fault : Option Fault) → IsEarlier fault None fault
earlier_none None = refl
earlier_none (Some fault) = refl

-- where none is the earlier of two, the second is none
pub second_none : (fault other found : Option Fault) → IsEarlier fault other found → found ≡ None → other ≡ None
second_none None other found is none = sym is ∙ none
second_none (Some fault) None found is none = refl
second_none (Some fault) (Some other) found (inl is) none = absurd (let some = is.0 in cc)
second_none (Some fault) (Some other) found (inr is) none = absurd (let some = is.0 in cc)

-- the earlier of two faults that are the first of their kind
of_two : (V W : Type 0) (P Q : Fault → Type 0) (f g : Fault) (found : Option Fault) → IsEarlier (Some f) (Some g) found → IsFirst V P (Some f) → IsFirst W Q (Some g) → IsFirst (V × W) (λ fault. P fault ⊎ Q fault) found
of_two V W P Q f g found (inl (is, before)) of_f of_g = subst (IsFirst (V × W) (λ fault. P fault ⊎ Q fault)) (sym is) (
  inr of_g.0,
  λ other has sooner. ⊎_elim
      (λ p. of_f.1 other p (before_before other.place g.place f.place sooner before))
      (λ q. of_g.1 other q sooner)
      has,
)
of_two V W P Q f g found (inr (is, not_before)) of_f of_g = subst (IsFirst (V × W) (λ fault. P fault ⊎ Q fault)) (sym is) (
  inl of_f.0,
  λ other has sooner. ⊎_elim
      (λ p. of_f.1 other p sooner)
      (λ q. of_g.1 other q (before_other other.place g.place f.place sooner not_before (ordered other.place g.place)))
      has,
)

-- where what is right excludes the faults, the earlier of two first faults is the first of all
pub earlier_first : (V W : Type 0) (P Q : Fault → Type 0) → (V → (fault : Fault) → P fault → ⊥) → (W → (fault : Fault) → Q fault → ⊥)
    → (a b found : Option Fault) → IsEarlier a b found → IsFirst V P a → IsFirst W Q b → IsFirst (V × W) (λ fault. P fault ⊎ Q fault) found
earlier_first V W P Q no_p no_q None None found is v w = subst (IsFirst (V × W) (λ fault. P fault ⊎ Q fault)) (sym is) (v, w)
earlier_first V W P Q no_p no_q None (Some g) found is v of_g =
    subst (IsFirst (V × W) (λ fault. P fault ⊎ Q fault)) (sym is) (inr of_g.0, λ other has before. ⊎_elim (λ p. no_p v other p) (λ q. of_g.1 other q before) has)
earlier_first V W P Q no_p no_q (Some f) None found is of_f w =
    subst (IsFirst (V × W) (λ fault. P fault ⊎ Q fault)) (sym is) (inl of_f.0, λ other has before. ⊎_elim (λ p. of_f.1 other p before) (λ q. no_q w other q) has)
earlier_first V W P Q no_p no_q (Some f) (Some g) found is of_f of_g = of_two V W P Q f g found is of_f of_g

first_like : (V W : Type 0) (P Q : Fault → Type 0) → (V → W) → ((fault : Fault) → P fault → Q fault) → ((fault : Fault) → Q fault → P fault) → (found : Option Fault) → IsFirst V P found → IsFirst W Q found
first_like V W P Q right there back None v = right v
first_like V W P Q right there back (Some fault) of = (there fault of.0, λ other has. of.1 other (back other has))

module _ {X : Type 0} (Right : X → Type 0) (Has : X → Fault → Type 0) (excludes : (x : X) → Right x → (fault : Fault) → Has x fault → ⊥) where
  first_of_push : (xs : List X) (x : X) (a b found : Option Fault) → IsFirstOf Right Has xs a → IsFirst (Right x) (Has x) b → IsEarlier a b found → IsFirstOf Right Has (xs ++ x ∷ []) found
  first_of_push xs x a b found of_xs of_x is = first_like _ _ _ _
      (λ both. λ y has. ⊎_elim (λ on. both.0 y on) (λ now. subst Right now both.1) (Contains-push_cases xs x y has))
      (λ fault has. ⊎_elim (λ on. (on.0, Contains-append_left xs (x ∷ []) on.0 on.1, on.2)) (λ now. (x, Contains-push xs x, now)) has)
      (λ fault has. ⊎_elim (λ on. inl (has.0, on, has.2)) (λ now. inr (subst (λ (y : X). Has y fault) (sym now) has.2)) (Contains-push_cases xs x has.0 has.1))
      found
      (earlier_first _ (Right x) _ (Has x) (λ all fault has. excludes has.0 (all has.0 has.1) fault has.2) (excludes x) a b found is of_xs of_x)

  -- the first fault of one element more
  pub first_of_more : (xs : List X) (i : ℕ) (x : X) (a b found : Option Fault) → slice_get xs i ≡ Some x → IsFirstOf Right Has (take i xs) a → IsFirst (Right x) (Has x) b → IsEarlier a b found → IsFirstOf Right Has (take (i + 1) xs) found
  first_of_more xs i x a b found at of_xs of_x is =
      let more : take (i + 1) xs ≡ take i xs ++ x ∷ [] = take_more xs i x (slice_get_within xs i x at) ∙ ap (λ (y : X). take i xs ++ y ∷ []) (get_or_from_slice_get xs i x x at) in
      subst (λ (ys : List X). IsFirstOf Right Has ys found) (sym more) (first_of_push (take i xs) x a b found of_xs of_x is)
