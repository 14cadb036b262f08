-- Which events stand in which passes.
use Rattle.std.proofs.Common.{◌≡◌, ◌≢◌, ◌⊎◌, ℕ, zero, suc, ◌<◌, List, [], ◌∷◌, ◌++◌, length, set, refl, sym, ap, ◌∙◌, subst, inl, inr, ⊎_elim, arith}
use mathlib.Core.Option.{some, some-injective, some-ne-none}
use mathlib.Core.Logic.{dite}
use native.Mathlib.Decide.{ℕ_discrete}
use lib.ListN.{get_elem?}
use Rattle.atomic_table.proofs.Lists.{at_set, at_snoc, at_longer, set_else, set_here}
use Rattle.zic_pieces.specs.declared.pass.Event.{Event}
use Rattle.zic_pieces.specs.declared.pass.Known.{Known}
use Rattle.zic_pieces.specs.Events.{Has}
use Rattle.zic_pieces.specs.code.Core.{SomeHas}

pub there : {A : Type 0} (l : List A) (i : ℕ) (a : A) → get_elem? l i ≡ some a → i < length l
there [] i a e = absurd (some-ne-none a (sym e))
there (x ∷ xs) zero a e = omega arith
there (x ∷ xs) (suc i) a e = let r = there xs i a e in omega arith

pub has_front : (xs ys : List Event) (e : Event) → Has xs e → Has (xs ++ ys) e
has_front xs ys e h = (h.0, at_longer xs ys h.0 e h.1)

pub has_back : (xs ys : List Event) (e : Event) → Has ys e → Has (xs ++ ys) e
has_back [] ys e h = h
has_back (x ∷ xs) ys e h = let r = has_back xs ys e h in (suc r.0, r.1)

pub has_either : (xs ys : List Event) (e : Event) → Has (xs ++ ys) e → Has xs e ⊎ Has ys e
has_either [] ys e h = inr h
has_either (x ∷ xs) ys e (zero, is) = inl (0, is)
has_either (x ∷ xs) ys e (suc k, is) = ⊎_elim (λ r. inl (suc r.0, r.1)) inr (has_either xs ys e (k, is))

pub has_one : (x e : Event) → Has (x ∷ []) e → x ≡ e
has_one x e (zero, is) = some-injective x e is
has_one x e (suc k, is) = absurd (some-ne-none e (sym is))

pub has_none : (e : Event) → Has [] e → ⊥
has_none e h = some-ne-none e (sym h.1)

-- after a pass was changed: an event that stands somewhere stood there before, or is of the changed pass
pub after_set : (vs : List Known) (id : ℕ) (w : Known) (e : Event) → SomeHas (set vs id w) e → SomeHas vs e ⊎ Has w.events e
after_set vs id w e h = ⊎_elim
    (λ (x : (h.0 ≡ id) × (w ≡ h.1)). inr (subst (λ (u : Known). Has u.events e) (sym x.1) h.3))
    (λ (x : (h.0 ≢ id) × (get_elem? vs h.0 ≡ some h.1)). inl (h.0, h.1, x.1, h.3))
    (at_set vs id h.0 w h.1 h.2)

-- the same the other way, where the changed pass keeps its events
pub still_set : (vs : List Known) (id : ℕ) (v w : Known) (e : Event) → get_elem? vs id ≡ some v → (Has v.events e → Has w.events e) → SomeHas vs e → SomeHas (set vs id w) e
still_set vs id v w e at keep h = dite (ℕ_discrete h.0 id)
    (λ same. (id, w, set_here vs id w (there vs id v at), keep (subst (λ (u : Known). Has u.events e) (some-injective h.1 v (sym h.2 ∙ ap (λ j. get_elem? vs j) same ∙ at)) h.3)))
    (λ other. (h.0, h.1, set_else vs id h.0 w other ∙ h.2, h.3))

-- a pass gains the event x
pub after_gain : (vs : List Known) (id : ℕ) (v w : Known) (x e : Event) → get_elem? vs id ≡ some v → w.events ≡ v.events ++ x ∷ [] → SomeHas (set vs id w) e → SomeHas vs e ⊎ (x ≡ e)
after_gain vs id v w x e at is h = ⊎_elim inl
    (λ (m : Has w.events e). ⊎_elim (λ (o : Has v.events e). inl (id, v, at, o)) (λ (o : Has (x ∷ []) e). inr (has_one x e o)) (has_either v.events (x ∷ []) e (subst (λ (l : List Event). Has l e) is m)))
    (after_set vs id w e h)

pub still_gain : (vs : List Known) (id : ℕ) (v w : Known) (x e : Event) → get_elem? vs id ≡ some v → w.events ≡ v.events ++ x ∷ [] → SomeHas vs e → SomeHas (set vs id w) e
still_gain vs id v w x e at is h = still_set vs id v w e at (λ m. subst (λ (l : List Event). Has l e) (sym is) (has_front v.events (x ∷ []) e m)) h

pub new_gain : (vs : List Known) (id : ℕ) (v w : Known) (x : Event) → get_elem? vs id ≡ some v → w.events ≡ v.events ++ x ∷ [] → SomeHas (set vs id w) x
new_gain vs id v w x at is = (id, w, set_here vs id w (there vs id v at), subst (λ (l : List Event). Has l x) (sym is) (has_back v.events (x ∷ []) x (0, refl)))

-- a new pass without events
pub after_snoc : (vs : List Known) (w : Known) (e : Event) → w.events ≡ [] → SomeHas (vs ++ w ∷ []) e → SomeHas vs e
after_snoc vs w e none h = ⊎_elim
    (λ (x : get_elem? vs h.0 ≡ some h.1). (h.0, h.1, x, h.3))
    (λ (x : w ≡ h.1). absurd (has_none e (subst (λ (l : List Event). Has l e) (ap (λ (u : Known). u.events) (sym x) ∙ none) h.3)))
    (at_snoc vs w h.1 h.0 h.2)

pub still_snoc : (vs : List Known) (w : Known) (e : Event) → SomeHas vs e → SomeHas (vs ++ w ∷ []) e
still_snoc vs w e h = (h.0, h.1, at_longer vs (w ∷ []) h.0 h.1 h.2, h.3)
