-- Slots that are kept once, and tables of their numbers.
use Rattle.std.proofs.Common.{◌≡◌, ◌∙◌, ◌<◌, ◌+◌, ◌++◌, ◌⊎◌, inl, inr, ℕ, zero, suc, ℤ, List, [], ◌∷◌, length, map, set, take, drop, Some, ap, length-append, refl, sym, subst, arith}
use Rattle.std.specs.Prelude.{Option, None, Result, Ok, Err, IfOk, IfSome, slice_get, slice_index_or, slice_range, ◌==◌}
use Rattle.std.proofs.lemmas.Bool.{cases_Bool, eqb-false, eqb-true}
use Rattle.std.proofs.lemmas.List.{get_or-set_other, get_or-set_same, length-map}
use Rattle.std.proofs.lemmas.Option.{get_or_from_slice_get, slice_get_within}
use Rattle.zic_base.proofs.Elements.{got}
use Rattle.zic_base.proofs.Lists.{get_mapped}
use Rattle.zic_base.proofs.Options.{if_at}
use Rattle.zic_zones.specs.Places.{base_of}
use Rattle.zic_zones.specs.Slots.{AreRight}
use Rattle.zic_zones.specs.declared.slot.TheConstants.{SLOTS}
use Rattle.zic_zones.specs.declared.slot.Slot.{Slot}
use Rattle.zic_tzif.specs.Content.{Content}
use Rattle.zic_zones.proofs.Slots.{got_more}
use Rattle.zic_zones.proofs.Keeping.{got_still, keeps_more, keeps_same}
use Rattle.zic_zones.proofs.Slotted.{got_right}
use Rattle.zic_zones.specs.code.Tables.{AreNumbersOfSlots, HasTable, HaveSlots, HaveTables, slot_of}
use Rattle.zic_zones.specs.code.Numbered.{Keeps}

-- ---- numbers of slots

pub no_slots : (slots : List Slot) → HaveSlots slots []
no_slots slots = record { each = λ i n none. absurd cc }

-- what follows of each number follows of whatever is there
pub if_ok_some : {E : Type 0} (r : Result (Option ℕ) E) {P Q : ℕ → Type 0} → IfOk r (λ o. IfSome o P) → ((x : ℕ) → P x → Q x) → IfOk r (λ o. IfSome o Q)
if_ok_some (Ok None) holds then = tt
if_ok_some (Ok (Some x)) holds then = then x holds
if_ok_some (Err e) holds then = tt

-- a list that stayed, or to which others were added
pub either_keeps : (old new run : List ℕ) → (new ≡ old) ⊎ (new ≡ old ++ run) → Keeps old new
either_keeps old new run how = elim how [
  | inl same ↦ subst (λ (l : List ℕ). Keeps old l) (sym same) (keeps_same old)
  | inr more ↦ subst (λ (l : List ℕ). Keeps old l) (sym more) (keeps_more old run)
]

got_either : {X : Type 0} (xs ys : List X) (i : ℕ) (x : X) → slice_get (xs ++ ys) i ≡ Some x → (slice_get xs i ≡ Some x) ⊎ ((j : ℕ) × (slice_get ys j ≡ Some x))
got_either [] ys i x at = inr (i, at)
got_either (z ∷ xs) ys zero x at = inl at
got_either (z ∷ xs) ys (suc i) x at = got_either xs ys i x at

-- the number of one slot more
pub slot_numbered : (slots : List Slot) (numbers : List ℕ) (table : List Slot) (slot : Slot) (n : ℕ) → AreNumbersOfSlots slots numbers table → slice_get slots n ≡ Some slot
    → AreNumbersOfSlots slots (numbers ++ n ∷ []) (table ++ slot ∷ [])
slot_numbered slots numbers table slot n are at =
    let long = are.long in
    record {
      long = omega (arith, long, length-append numbers (n ∷ []), length-append table (slot ∷ []));
      each = λ i m at_m. elim (got_more numbers n m i at_m) [
        | inl before ↦ let (other, is, of) = are.each i m before in (other, is, got_still table (slot ∷ []) i other of)
        | inr last ↦
            let end : length table + 0 ≡ i = omega (arith, long, last.0) in (
              slot,
              subst (λ (k : ℕ). slice_get slots k ≡ Some slot) last.1 at,
              subst (λ (k : ℕ). slice_get (table ++ slot ∷ []) k ≡ Some slot) end (got_right table (slot ∷ []) 0),
            )
      ];
    }

-- ---- a part of a list

got_dropped : (xs : List ℕ) (s j : ℕ) → slice_get (drop s xs) j ≡ slice_get xs (s + j)
got_dropped xs zero j = let none : j ≡ 0 + j = omega arith in ap (slice_get xs) none
got_dropped [] (suc s) j = refl
got_dropped (x ∷ xs) (suc s) j =
    let next : suc (s + j) ≡ suc s + j = omega arith in
    got_dropped xs s j ∙ ap (slice_get (x ∷ xs)) next

got_untaken : (xs : List ℕ) (n j x : ℕ) → slice_get (take n xs) j ≡ Some x → slice_get xs j ≡ Some x
got_untaken xs zero j x at = absurd cc
got_untaken [] (suc n) j x at = absurd cc
got_untaken (y ∷ xs) (suc n) zero x at = at
got_untaken (y ∷ xs) (suc n) (suc j) x at = got_untaken xs n j x at

got_in_range : (xs run : List ℕ) (s j x : ℕ) → slice_range xs s (s + length run) ≡ run → slice_get run j ≡ Some x → slice_get xs (s + j) ≡ Some x
got_in_range xs run s j x located at =
    let part : slice_get (slice_range xs s (s + length run)) j ≡ Some x = ap (λ (l : List ℕ). slice_get l j) located ∙ at in
    sym (got_dropped xs s j) ∙ got_untaken (drop s xs) _ j x part

module _ (slots slots' : List Slot) (keeps : Keeps slots slots') where
  pub have_still : (numbers : List ℕ) → HaveSlots slots numbers → HaveSlots slots' numbers
  have_still numbers have = record { each = λ i n at. let (slot, is) = have.each i n at in (slot, keeps.still n slot is) }

  pub numbers_still : (numbers : List ℕ) (table : List Slot) → AreNumbersOfSlots slots numbers table → AreNumbersOfSlots slots' numbers table
  numbers_still numbers table are = record {
    long = are.long;
    each = λ i n at. let (slot, is, of) = are.each i n at in (slot, keeps.still n slot is, of);
  }

  -- the slots of the numbers stay, as slots and numbers are added
  pub slots_still : (numbers numbers' : List ℕ) → HaveSlots slots numbers → Keeps numbers numbers' → Keeps (map (slot_of slots) numbers) (map (slot_of slots') numbers')
  slots_still numbers numbers' have keeps' = record {
    still = λ i x at.
        let lt = slice_get_within (map (slot_of slots) numbers) i x at in
        let (n, at_n) = got numbers i (omega (arith, lt, length-map numbers (slot_of slots))) in
        let (slot, is) = have.each i n at_n in
        let before : slot_of slots n ≡ slot = get_or_from_slice_get slots n slot _ is in
        let after : slot_of slots' n ≡ slot = get_or_from_slice_get slots' n slot _ (keeps.still n slot is) in
        let here : Some (slot_of slots n) ≡ Some x = sym (get_mapped (slot_of slots) numbers i n at_n) ∙ at in
        get_mapped (slot_of slots') numbers' i n (keeps'.still i n at_n) ∙ ap (λ (s : Slot). Some s) (after ∙ sym before) ∙ here;
  }

module _ (slots : List Slot) (run : List ℕ) (table : List Slot) (are : AreNumbersOfSlots slots run table) where
  pub have_more : (numbers : List ℕ) → HaveSlots slots numbers → HaveSlots slots (numbers ++ run)
  have_more numbers have = record {
    each = λ i n at. elim (got_either numbers run i n at) [
      | inl before ↦ have.each i n before
      | inr more ↦ let (slot, is, of) = are.each more.0 n more.1 in (slot, is)
    ];
  }

  pub either_have : (numbers numbers' : List ℕ) → HaveSlots slots numbers → (numbers' ≡ numbers) ⊎ (numbers' ≡ numbers ++ run) → HaveSlots slots numbers'
  either_have numbers numbers' have how = elim how [
    | inl same ↦ subst (λ (l : List ℕ). HaveSlots slots l) (sym same) have
    | inr more ↦ subst (λ (l : List ℕ). HaveSlots slots l) (sym more) (have_more numbers have)
  ]

  -- a table whose numbers stand among others
  pub has_table : (content : Content) (zone : List ℕ) (base : ℤ) (numbers : List ℕ) (start : ℕ) → length table ≡ SLOTS → AreRight content zone base table
      → slice_range numbers start (start + length run) ≡ run → HasTable content zone (map (slot_of slots) numbers) base start
  has_table content zone base numbers start long right located = record {
    is = λ place lt.
        let length_is = are.long in
        let (n, at) = got run place (omega (arith, lt, long, length_is)) in
        let (slot, is, of) = are.each place n at in
        let here = got_in_range numbers run start place n located at in
        let that : slot_of slots n ≡ slot = get_or_from_slice_get slots n slot _ is in
        (slot, get_mapped (slot_of slots) numbers (start + place) n here ∙ ap (λ (s : Slot). Some s) that, right.each place slot of);
  }

-- ---- tables of eras

module _ (content : Content) (zone : List ℕ) where
  table_stays : (slots slots' : List Slot) (base : ℤ) (start : ℕ) → Keeps slots slots' → HasTable content zone slots base start → HasTable content zone slots' base start
  table_stays slots slots' base start keeps has = record {
    is = λ place lt. let (slot, at, right) = has.is place lt in (slot, keeps.still (start + place) slot at, right);
  }

  -- the table of one era more
  pub era_added : (slots slots' : List Slot) (starts : List (Option ℕ)) (era : ℕ) (found : Option ℕ) → Keeps slots slots' → era < length starts → HaveTables content zone slots starts
      → IfSome found (HasTable content zone slots' (base_of era)) → HaveTables content zone slots' (set starts era found)
  era_added slots slots' starts era found keeps within have is = record {
    each = λ k start at. elim (cases_Bool (k == era)) [
      | inl same ↦
          let here : k ≡ era = eqb-true k era same in
          let begins : found ≡ Some start = sym (get_or-set_same starts era found None within) ∙ ap (λ (j : ℕ). slice_index_or (set starts era found) j None) (sym here) ∙ at in
          subst (λ (j : ℕ). HasTable content zone slots' (base_of j) start) (sym here) (if_at found (HasTable content zone slots' (base_of era)) start is begins)
      | inr other ↦
          let ne = eqb-false k era other in
          table_stays slots slots' (base_of k) start keeps (have.each k start (sym (get_or-set_other starts era k found None ne) ∙ at))
    ];
  }
