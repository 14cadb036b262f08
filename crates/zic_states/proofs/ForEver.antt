-- A set whose occurrences stand in order before the year 405 after the last that it names is in order for ever.
use Rattle.std.proofs.Common.{◌≡◌, ℕ, zero, suc, ◌<◌, All, AllPairs, inl, inr, refl, sym, ap, subst, ◌∙◌, arith, ℤ, pos, neg_ℤ, ◌+ℤ◌, ◌<ℤ◌, ◌≤ℤ◌, List, Some}
use Rattle.std.specs.Prelude.{slice_get}
use Rattle.std.proofs.lemmas.Int.{ints, by_lt_z}
use Rattle.std.proofs.lemmas.Bool.{cases_order}
use borrow.Author.Differences.{up}
use Rattle.std.proofs.lemmas.Option.{slice_get-get_or, slice_get_within, get_or_from_slice_get}
use Rattle.zic_source.specs.Sound.{IsSoundRule, IsWithinDay}
use Rattle.zic_base.proofs.Elements.{got}
use Rattle.zic_states.specs.declared.occurrence.TimedOccurrence.{TimedOccurrence}
use Rattle.zic_states.specs.Occurrence.{RuleSet, Occurrence, IsOccurrence, AreSame, nominal, year_second}
use Rattle.zic_states.specs.Order.{IsInstant, IsInOrder}
use Rattle.zic_states.specs.Listing.{IsLastNamed}
use Rattle.zic_states.specs.code.OccurrenceWalk.{IsBefore, AreInOrderBefore, AreWalked}
use Rattle.zic_states.proofs.Bounds.{nominal_to, years_apart, instant_from, instant_to}
use Rattle.zic_states.proofs.Shift.{in_year, occurs_again, sooner_shift, instant_moves}
use Rattle.zic_states.proofs.Same.{Differ, one_place, same_occurrence, one_instant}

-- ---- a list in order

pair_at : {X : Type 0} (R : X → X → Type 0) (xs : List X) (i j : ℕ) (x y : X) → AllPairs R xs → i < j → slice_get xs i ≡ Some x → slice_get xs j ≡ Some y → R x y
pair_at R xs i j x y all lt at_i at_j =
    let both = all i j x lt (slice_get_within xs j y at_j) in
    rw (get_or_from_slice_get xs i x x at_i, get_or_from_slice_get xs j y x at_j) at both

-- each occurrence before the bound has a place
placed : (set : RuleSet) (bound : ℤ) (os : List Occurrence) (o : Occurrence) → AreInOrderBefore set bound os → IsOccurrence set o → nominal o <ℤ bound → (k : ℕ) × (slice_get os k ≡ Some o)
placed set bound os o listed is before =
    let some = listed.all o (record { is = is; before = before }) in
    let here = subst (IsBefore set bound) some.3 (listed.each some.0 some.1 some.2) in
    let same = same_occurrence set o some.1 is here.is some.4 in
    (some.0, slice_get-get_or os some.0 some.1 some.2 ∙ ap (λ (z : Occurrence). Some z) (some.3 ∙ sym same))

-- ---- what was walked through

-- the occurrences of a sound set before a bound in the year 405 after its last, or later, with instants that rise
pub record IsWalk (set : RuleSet) (offset bound : ℤ) (L : ℕ) (os : List Occurrence) (xs : List TimedOccurrence) : Type 0 where
  pub sound : All IsSoundRule set.rules
  pub within : IsWithinDay offset
  pub last : IsLastNamed set L
  pub far : year_second (pos L +ℤ pos 405) ≤ℤ bound
  pub walked : AreWalked set offset bound os xs

-- what lies at the bound or after it is of the year 404 after the last, or later
late : (set : RuleSet) (offset bound : ℤ) (L : ℕ) (os : List Occurrence) (xs : List TimedOccurrence) → IsWalk set offset bound L os xs → (o : Occurrence) → IsOccurrence set o → bound ≤ℤ nominal o → (pos L +ℤ pos 404) ≤ℤ o.year
late set offset bound L os xs walk o is h =
    by_lt_z o.year (pos L +ℤ pos 404)
    (λ lt. absurd (omega (arith, ints, walk.far, nominal_to set o (o.year +ℤ pos 1) refl walk.sound is, years_apart (o.year +ℤ pos 1) (pos L +ℤ pos 405) (omega (arith, ints)))))
    (λ ge. ge)

-- ---- different occurrences differ

pub differ_listed : (set : RuleSet) (bound : ℤ) (os : List Occurrence) (o p : Occurrence) → AreInOrderBefore set bound os → IsOccurrence set o → IsOccurrence set p → nominal o <ℤ bound → nominal o ≡ nominal p → AreSame o p
differ_listed set bound os o p listed is_o is_p before tied =
    let i = placed set bound os o listed is_o before in
    let j = placed set bound os p listed is_p (omega (arith, ints)) in
    elim (cases_order i.0 j.0) [
      | inl e ↦
          let same = one_place os i.0 j.0 o p e i.1 j.1 in
          record { number = ap (λ (z : Occurrence). z.number) same; year = ap (λ (z : Occurrence). z.year) same }
      | inr (inl lt) ↦ absurd (omega (arith, ints, pair_at (λ a b. nominal a <ℤ nominal b) os i.0 j.0 o p listed.rising lt i.1 j.1))
      | inr (inr gt) ↦ absurd (omega (arith, ints, pair_at (λ a b. nominal a <ℤ nominal b) os j.0 i.0 p o listed.rising gt j.1 i.1))
    ]

-- by descent: where two stand after the bound, so do they 400 years sooner
differ_until : (set : RuleSet) (offset bound : ℤ) (L : ℕ) (os : List Occurrence) (xs : List TimedOccurrence) → IsWalk set offset bound L os xs → (n : ℕ) (o p : Occurrence) → IsOccurrence set o → IsOccurrence set p → nominal o ≡ nominal p → o.year <ℤ (pos L +ℤ pos 404 +ℤ pos n) → AreSame o p
differ_until set offset bound L os xs walk zero o p is_o is_p tied lt =
    by_lt_z (nominal o) bound
    (λ before. differ_listed set bound os o p walk.walked.in_order is_o is_p before tied)
    (λ after. absurd (omega (arith, ints, late set offset bound L os xs walk o is_o after)))
differ_until set offset bound L os xs walk (suc n) o p is_o is_p tied lt =
    by_lt_z (nominal o) bound
    (λ before. differ_listed set bound os o p walk.walked.in_order is_o is_p before tied)
    (λ after.
    let year_o = late set offset bound L os xs walk o is_o after in
    let year_p = late set offset bound L os xs walk p is_p (omega (arith, ints)) in
    let back_o = o.year +ℤ neg_ℤ (pos 400) in
    let back_p = p.year +ℤ neg_ℤ (pos 400) in
    let moved_o = sooner_shift.moves o.year back_o o.rule.moment refl in
    let moved_p = sooner_shift.moves p.year back_p p.rule.moment refl in
    let same = differ_until set offset bound L os xs walk n (in_year back_o o) (in_year back_p p)
    (occurs_again set L o back_o walk.last is_o (omega (arith, ints)) (omega (arith, ints)))
    (occurs_again set L p back_p walk.last is_p (omega (arith, ints)) (omega (arith, ints)))
    (omega (arith, ints)) (omega (arith, ints)) in
    record { number = same.number; year = let e = same.year in omega (arith, ints) })

differ_for_ever : (set : RuleSet) (offset bound : ℤ) (L : ℕ) (os : List Occurrence) (xs : List TimedOccurrence) → IsWalk set offset bound L os xs → Differ set
differ_for_ever set offset bound L os xs walk o p is_o is_p tied =
    differ_until set offset bound L os xs walk (up o.year) o p is_o is_p tied (omega (arith, ints))

-- ---- instants rise

pub rise_listed : (set : RuleSet) (offset bound : ℤ) (os : List Occurrence) (xs : List TimedOccurrence) → AreWalked set offset bound os xs → Differ set → (p q : Occurrence) (u t : ℤ) → IsOccurrence set p → IsOccurrence set q → nominal p <ℤ nominal q → nominal q <ℤ bound → IsInstant set offset p u → IsInstant set offset q t → u <ℤ t
rise_listed set offset bound os xs walked differ p q u t is_p is_q less before at_p at_q =
    let listed = walked.in_order in
    let i = placed set bound os p listed is_p (omega (arith, ints)) in
    let j = placed set bound os q listed is_q before in
    let count = walked.count in
    let x = got xs i.0 (omega (arith, slice_get_within os i.0 p i.1)) in
    let y = got xs j.0 (omega (arith, slice_get_within os j.0 q j.1)) in
    let same_u = one_instant set offset p u x.0.instant differ at_p (walked.each i.0 x.0 p x.1 i.1).instant in
    let same_t = one_instant set offset q t y.0.instant differ at_q (walked.each j.0 y.0 q y.1 j.1).instant in
    elim (cases_order i.0 j.0) [
      | inl e ↦
          let same = one_place os i.0 j.0 p q e i.1 j.1 in
          absurd (omega (arith, ints, ap (λ (z : Occurrence). nominal z) same))
      | inr (inl lt) ↦ omega (arith, ints, pair_at (λ a b. a.instant <ℤ b.instant) xs i.0 j.0 x.0 y.0 walked.rising lt x.1 y.1)
      | inr (inr gt) ↦ absurd (omega (arith, ints, pair_at (λ a b. nominal a <ℤ nominal b) os j.0 i.0 q p listed.rising gt j.1 i.1))
    ]

-- instants of years that differ by two rise
pub rise_apart : (set : RuleSet) (offset : ℤ) (p q : Occurrence) (u t : ℤ) → All IsSoundRule set.rules → IsWithinDay offset → IsOccurrence set p → IsOccurrence set q → (p.year +ℤ pos 2) ≤ℤ q.year → IsInstant set offset p u → IsInstant set offset q t → u <ℤ t
rise_apart set offset p q u t sound within is_p is_q h at_p at_q =
    omega (arith, ints, instant_to set offset p u (p.year +ℤ pos 1) refl sound within is_p at_p, instant_from set offset q t sound within is_q at_q, years_apart (p.year +ℤ pos 1) q.year (omega (arith, ints)))

-- by descent: two instants of one year or neighbouring years after the bound stand as they do 400 years sooner
rise_until : (set : RuleSet) (offset bound : ℤ) (L : ℕ) (os : List Occurrence) (xs : List TimedOccurrence) → IsWalk set offset bound L os xs → (n : ℕ) (p q : Occurrence) (u t : ℤ) → IsOccurrence set p → IsOccurrence set q → nominal p <ℤ nominal q → IsInstant set offset p u → IsInstant set offset q t → q.year <ℤ (pos L +ℤ pos 404 +ℤ pos n) → u <ℤ t
rise_until set offset bound L os xs walk zero p q u t is_p is_q less at_p at_q lt =
    by_lt_z (nominal q) bound
    (λ before. rise_listed set offset bound os xs walk.walked (differ_for_ever set offset bound L os xs walk) p q u t is_p is_q less before at_p at_q)
    (λ after. absurd (omega (arith, ints, late set offset bound L os xs walk q is_q after)))
rise_until set offset bound L os xs walk (suc n) p q u t is_p is_q less at_p at_q lt =
    by_lt_z (nominal q) bound
    (λ before. rise_listed set offset bound os xs walk.walked (differ_for_ever set offset bound L os xs walk) p q u t is_p is_q less before at_p at_q)
    (λ after.
    let year_q = late set offset bound L os xs walk q is_q after in
    by_lt_z q.year (p.year +ℤ pos 2)
    (λ near.
    let back_p = p.year +ℤ neg_ℤ (pos 400) in
    let back_q = q.year +ℤ neg_ℤ (pos 400) in
    let moved_p = sooner_shift.moves p.year back_p p.rule.moment refl in
    let moved_q = sooner_shift.moves q.year back_q q.rule.moment refl in
    let sooner = rise_until set offset bound L os xs walk n (in_year back_p p) (in_year back_q q) _ _
    (occurs_again set L p back_p walk.last is_p (omega (arith, ints)) (omega (arith, ints)))
    (occurs_again set L q back_q walk.last is_q (omega (arith, ints)) (omega (arith, ints)))
    (omega (arith, ints))
    (instant_moves set offset L (neg_ℤ (pos 400)) (neg_ℤ (pos 12_622_780_800)) p u back_p walk.sound walk.last sooner_shift is_p at_p (omega (arith, ints)) refl (omega (arith, ints)))
    (instant_moves set offset L (neg_ℤ (pos 400)) (neg_ℤ (pos 12_622_780_800)) q t back_q walk.sound walk.last sooner_shift is_q at_q (omega (arith, ints)) refl (omega (arith, ints)))
    (omega (arith, ints)) in
    omega (arith, ints))
    (λ apart. rise_apart set offset p q u t walk.sound walk.within is_p is_q apart at_p at_q))

pub in_order_for_ever : (set : RuleSet) (offset bound : ℤ) (L : ℕ) (os : List Occurrence) (xs : List TimedOccurrence) → All IsSoundRule set.rules → IsWithinDay offset → IsLastNamed set L → year_second (pos L +ℤ pos 405) ≤ℤ bound → AreWalked set offset bound os xs → IsInOrder set offset
in_order_for_ever set offset bound L os xs sound within last far walked =
    let walk : IsWalk set offset bound L os xs = record { sound = sound; within = within; last = last; far = far; walked = walked } in
    record {
      differ = differ_for_ever set offset bound L os xs walk;
      rise = λ o p t u is pred at_o at_p. rise_until set offset bound L os xs walk (up o.year) p o u t pred.is is pred.earlier at_p at_o (omega (arith, ints));
    }
