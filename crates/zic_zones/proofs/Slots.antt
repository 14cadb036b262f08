-- Slots that are right.
use Rattle.std.proofs.Common.{◌≡◌, ℕ, zero, suc, Bool, true, false, ◌⊎◌, inl, inr, ◌++◌, List, [], ◌∷◌, length, Some, ap, refl, subst, sym, arith}
use Rattle.std.specs.Prelude.{ℤ, pos, ◌+ℤ◌, ◌*◌, ◌≤ℤ◌, nat_le, if◌then◌else◌, slice_get}
use Rattle.std.proofs.lemmas.Bool.{leb-true, leb-false}
use Rattle.std.proofs.lemmas.Int.{ints}
use Rattle.std.proofs.lemmas.Option.{same_Some}
use Rattle.zic_posix.specs.Instants.{Includes}
use Rattle.zic_zones.specs.Slots.{AreRight, IsRight, Says}
use Rattle.zic_zones.specs.code.Known.{IsKnown}
use Rattle.zic_zones.specs.declared.slot.TheConstants.{SLOT_SECONDS, UNKNOWN}
use Rattle.zic_zones.specs.declared.slot.Slot.{Slot}
use Rattle.zic_zones.specs.declared.table.NumberSpan.{NumberSpan}
use Rattle.zic_tzif.specs.Content.{Content}

either : (b : Bool) (n : ℕ) → (if b then n else n) ≡ n
either true n = refl
either false n = refl

module _ (content : Content) (numbers : List ℕ) (start : ℤ) where
  -- a slot of one number
  pub right_throughout : (known : NumberSpan) → IsKnown content numbers known → Includes known.instants start → (start +ℤ pos 8388607) ≤ℤ known.instants.last
      → IsRight content numbers start (record { change = 0; before = known.number; after = known.number })
  right_throughout known is requested far = record {
    says = λ second lt.
        let from = requested.from in
        let within : Includes known.instants (start +ℤ pos second) = record { from = omega (arith, ints, from); to = omega (arith, ints, far, lt) } in
        subst (λ (n : ℕ). Says content numbers (start +ℤ pos second) n) (sym (either (nat_le 0 second) known.number)) (is.says (start +ℤ pos second) within);
  }

  -- a slot with a change
  pub right_by_change : (before after : NumberSpan) (change : ℕ) → IsKnown content numbers before → IsKnown content numbers after
      → Includes before.instants start → (start +ℤ pos change) ≡ (before.instants.last +ℤ pos 1)
      → Includes after.instants (start +ℤ pos change) → (start +ℤ pos 8388607) ≤ℤ after.instants.last
      → IsRight content numbers start (record { change = change; before = before.number; after = after.number })
  right_by_change before after change is_before is_after requested at changed far = record {
    says = λ second lt.
        let t = start +ℤ pos second in
        let first = requested.from in
        let from = changed.from in
        let pick : (b : Bool) → nat_le change second ≡ b → Says content numbers t (if b then after.number else before.number) = λ b. elim b as (λ k. nat_le change second ≡ k → Says content numbers t (if k then after.number else before.number)) [
          | true ↦ λ e. let le = leb-true change second e in is_after.says t (record { from = omega (arith, ints, from, le); to = omega (arith, ints, far, lt) })
          | false ↦ λ e. let gt = leb-false change second e in is_before.says t (record { from = omega (arith, ints, first); to = omega (arith, ints, at, gt) })
        ] in
        pick (nat_le change second) refl;
  }

  -- a slot that says nothing
  pub right_of_nothing : IsRight content numbers start (record { change = 0; before = UNKNOWN; after = UNKNOWN })
  right_of_nothing = record { says = λ second lt says. absurd (says (either (nat_le 0 second) UNKNOWN)) }

-- an element of a list to which one was added is one from before, or the added one
pub got_more : {X : Type 0} (xs : List X) (y x : X) (i : ℕ) → slice_get (xs ++ y ∷ []) i ≡ Some x → (slice_get xs i ≡ Some x) ⊎ ((length xs ≡ i) × (y ≡ x))
got_more [] y x zero e = inr (refl, same_Some y x e)
got_more [] y x (suc i) e = absurd cc
got_more (z ∷ xs) y x zero e = inl e
got_more (z ∷ xs) y x (suc i) e = elim (got_more xs y x i e) [
  | inl before ↦ inl before
  | inr last ↦ inr (ap suc last.0, last.1)
]

module _ (content : Content) (numbers : List ℕ) (base : ℤ) where
  pub no_slots : AreRight content numbers base []
  no_slots = record { each = λ place slot none. absurd cc }

  -- one slot more
  pub right_more : (slots : List Slot) (slot : Slot) → AreRight content numbers base slots → IsRight content numbers (base +ℤ pos (length slots * SLOT_SECONDS)) slot
      → AreRight content numbers base (slots ++ slot ∷ [])
  right_more slots slot are is = record {
    each = λ place other at. elim (got_more slots slot other place at) [
      | inl before ↦ are.each place other before
      | inr last ↦
          subst (λ (s : Slot). IsRight content numbers (base +ℤ pos (place * SLOT_SECONDS)) s) last.1
          (subst (λ (i : ℕ). IsRight content numbers (base +ℤ pos (i * SLOT_SECONDS)) slot) last.0 is)
    ];
  }
