-- The numbers of states.
use Rattle.std.proofs.Common.{◌≡◌, ℕ, ◌+◌, ◌<◌, Bool, false, cond, ◌||◌, inl, inr, List, [], ◌∷◌, ◌++◌, length, Option, Some, None, refl, sym, ap, subst, ◌∙◌, arith}
use Rattle.std.specs.HashMap.{HashMap, get, Updates}
use Rattle.std.specs.List.{list_any}
use Rattle.std.proofs.lemmas.Bool.{cases_Bool}
use Rattle.std.proofs.lemmas.List.{length-append}
use Rattle.std.proofs.lemmas.List.Folds.{list_any-append}
use Rattle.std.proofs.lemmas.Option.{same_Some}
use Rattle.zic_base.specs.State.{Shown, shown}
use Rattle.zic_base.specs.declared.state.State.{State}
use Rattle.zic_table.specs.ContentOf.{before, same_state}
use Rattle.zic_table.specs.code.Firsts.{with_new, IsNumbered}
use Rattle.zic_table.specs.code.Numbering.{same_key, number_of, AreNumbers}
use Rattle.zic_tzif.specs.declared.content.TheConstants.{MAX_TYPES}
use Rattle.zic_table.proofs.Firsts.{before_append, before_new}
use Rattle.zic_table.proofs.States.{state_decides, same_key-is}

module _ (states : List Shown) (state : Shown) where
  abbrev known : Bool
  known = list_any (λ s. same_state s state) states

  -- a number that was found is that of the state
  pub is_numbered : (n : ℕ) → Some n ≡ number_of states state → IsNumbered states states state n
  is_numbered n e = elim (cases_Bool known) [
    | inl t ↦ record { with_state = rw t refl; is_number = same_Some n (length (before same_state states state)) (rw t at e) }
    | inr f ↦ let none : Some n ≡ None = rw f at e in absurd cc
  ]

  -- and where none was found, there is none
  pub is_new : None ≡ number_of states state → known ≡ false
  is_new e = elim (cases_Bool known) [
    | inl t ↦ let some : None ≡ Some (length (before same_state states state)) = rw t at e in absurd cc
    | inr f ↦ f
  ]

  module _ (new : known ≡ false) where
    pub added : with_new same_state states state ≡ states ++ state ∷ []
    added = rw new refl

    pub one_more : length (with_new same_state states state) ≡ length states + 1
    one_more = ap (λ (l : List Shown). length l) added ∙ length-append states (state ∷ [])

    pub is_next : IsNumbered states (states ++ state ∷ []) state (length states)
    is_next = record {
      with_state = sym added;
      is_number = sym (ap (λ (l : List Shown). length l) (before_new same_state states state new ((state_decides state state).1 refl)));
    }

    any_more : (other : Shown) → list_any (λ s. same_state s other) (states ++ state ∷ []) ≡ (list_any (λ s. same_state s other) states || (same_state state other || false))
    any_more other = list_any-append (λ s. same_state s other) states (state ∷ [])

    -- the numbers with one more
    number_more : (other : Shown) → number_of (states ++ state ∷ []) other ≡ cond (same_state state other) (Some (length states)) (number_of states other)
    number_more other = elim (cases_Bool (same_state state other)) [
      | inl t ↦
          let same = (state_decides state other).0 t in
          let here : number_of (states ++ state ∷ []) state ≡ Some (length states) =
          let itself = (state_decides state state).1 refl in
          rw (any_more state, new, itself) (ap (λ (l : List Shown). Some (length l)) (before_new same_state states state new itself)) in
          rw t (subst (λ (s : Shown). number_of (states ++ state ∷ []) s ≡ Some (length states)) same here)
      | inr f ↦ elim (cases_Bool (list_any (λ s. same_state s other) states)) [
        | inl has ↦ rw (any_more other, f, has) (ap (λ (l : List Shown). Some (length l)) (before_append same_state states (state ∷ []) other has))
        | inr none ↦ rw (any_more other, f, none) refl
      ]
    ]

    pub numbers_more : {S : Type 0} (key : State) → shown key ≡ state → (numbers more : HashMap State ℕ S) → AreNumbers states numbers
        → length states < MAX_TYPES → Updates same_key numbers more key (Some (length states)) → AreNumbers (states ++ state ∷ []) more
    numbers_more key is numbers more are room updates = record {
      fit = omega (arith, length-append states (state ∷ []));
      each = λ other.
          let tied : same_key key other ≡ same_state state (shown other) = same_key-is key other ∙ ap (λ (s : Shown). same_state s (shown other)) is in
          updates.0 other ∙ ap (λ (b : Bool). cond b (Some (length states)) (get same_key numbers other)) tied
          ∙ ap (λ (o : Option ℕ). cond (same_state state (shown other)) (Some (length states)) o) (are.each other)
          ∙ sym (number_more (shown other));
    }
