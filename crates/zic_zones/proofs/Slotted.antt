-- Tables of slots.
use Rattle.std.proofs.Common.{◌≡◌, ◌∙◌, ◌+◌, ◌++◌, ℕ, suc, ℤ, List, [], ◌∷◌, length, Some, ap, subst, arith}
use Rattle.std.specs.Prelude.{◌*◌, pos, ◌+ℤ◌, slice_get}
use Rattle.zic_base.specs.State.{Shown}
use Rattle.zic_zones.specs.Slots.{number_at}
use Rattle.zic_zones.specs.declared.slot.TheConstants.{SLOT_SECONDS}
use Rattle.zic_zones.specs.declared.slot.Slot.{Slot}
use Rattle.zic_tzif.proofs.States.{one_state}
use Rattle.zic_tzif.specs.Answer.{Answers}
use Rattle.zic_tzif.specs.Content.{Content}
use Rattle.zic_zones.proofs.Keeping.{has_text_still}
use Rattle.zic_zones.specs.code.Numbered.{Keeps}
use Rattle.zic_zones.specs.code.Ready.{AnswersState}
use Rattle.zic_zones.specs.code.Tables.{HasTable, IsTable}
use Rattle.zic_zones.specs.code.Texts.{AreNumbersOf}

-- an element of the second of two lists
pub got_right : {X : Type 0} (xs ys : List X) (i : ℕ) → slice_get (xs ++ ys) (length xs + i) ≡ slice_get ys i
got_right [] ys i = let none : 0 + i ≡ i = omega arith in ap (slice_get ys) none
got_right (x ∷ xs) ys i =
    let next : length (x ∷ xs) + i ≡ suc (length xs + i) = omega arith in
    ap (slice_get (x ∷ (xs ++ ys))) next ∙ got_right xs ys i

-- the texts of the numbers of a table
pub texts_of_table : (content : Content) (numbers : List ℕ) (texts : List Shown) (slots : List Slot) (base : ℤ) (start : ℕ) → AreNumbersOf content texts numbers
    → HasTable content numbers slots base start → IsTable texts slots (AnswersState content) base start
texts_of_table content numbers texts slots base start of table = record {
  is = λ place lt.
      let (slot, at, right) = table.is place lt in (
        slot,
        at,
        λ second within says.
            let t = (base +ℤ pos (place * SLOT_SECONDS)) +ℤ pos second in
            let is = right.says second within says in
            let (text, named, state) = of.each is.number (number_at slot second) is.has says in
            (text, named, subst (λ (s : Shown). Answers content t (Some s)) (one_state content is.number is.state text is.of state) is.shown),
      );
}

-- a table stays as texts and slots are added
pub table_still : (texts texts' : List Shown) (slots slots' : List Slot) (answers : ℤ → Shown → Type 0) (base : ℤ) (start : ℕ) → Keeps texts texts' → Keeps slots slots'
    → IsTable texts slots answers base start → IsTable texts' slots' answers base start
table_still texts texts' slots slots' answers base start keeps keeps' table = record {
  is = λ place lt.
      let (slot, at, has) = table.is place lt in (
        slot,
        keeps'.still (start + place) slot at,
        λ second within.
            has_text_still texts texts' (number_at slot second) (answers ((base +ℤ pos (place * SLOT_SECONDS)) +ℤ pos second)) keeps (has second within),
      );
}
