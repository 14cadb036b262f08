-- When two files agree for ever.
use Rattle.std.proofs.Common.{◌≡◌, ℕ, zero, suc, ◌-◌, ◌<◌, ℤ, pos, ◌+ℤ◌, ◌-ℤ◌, ◌<ℤ◌, ◌≤ℤ◌, ◌⊎◌, inl, inr, List, length, get_or, Option, Some, None, MatchOption, sym, ap, subst, ◌∙◌, arith, w64, FitsSigned}
use Rattle.std.specs.Int.{int_div_euclid, int_max, saturate_signed}
use Rattle.std.specs.Prelude.{slice_get}
use Rattle.std.proofs.lemmas.Int.{ints, clamps, by_lt_z}
use Rattle.std.proofs.lemmas.Bool.{cases_lt}
use Rattle.std.proofs.lemmas.Option.{slice_get_within, get_or_from_slice_get, slice_get-get_or}
use Rattle.zic_base.proofs.Elements.{all_got}
use Rattle.zic_base.specs.State.{Shown}
use Rattle.zic_dump.proofs.Euclid.{place, by_seconds, same_place}
use Rattle.zic_dump.proofs.Forever.{answers_moved, later_or_end, past_later}
use Rattle.zic_compare.specs.Answers.{Pair, DifferAt, IsSeenAt}
use Rattle.zic_compare.specs.Differences.{AreDifferences, HasAnswersAt, IsDifference}
use Rattle.zic_compare.specs.Laws.{FourHundredYearsDecide, NoneComes}
use Rattle.zic_compare.specs.Summary.{AgreeAt, AgreeFrom, DifferForEver, IsEndOfDifference, IsFirstDifference, IsSummary}
use Rattle.zic_layouts.specs.declared.compared.Compared.{Compared}
use Rattle.zic_compare.specs.declared.difference.Difference.{Difference}
use Rattle.zic_compare.specs.declared.summary.Summary.{Summary}
use Rattle.zic_posix.specs.Instants.{Includes}
use Rattle.zic_posix.specs.declared.span.Instants.{Instants}
use Rattle.zic_posix.specs.declared.span.TheConstants.{MAX_INSTANT}
use Rattle.zic_tzif.specs.Answer.{answered, IsBeforeLast}
use Rattle.zic_tzif.specs.Content.{Content}

-- ---- 400 years after the last transition of both

seen_moved : (compared : Compared) (content : Content) (from : ℤ) → (IsBeforeLast content from → ⊥) → (u v : ℤ) (facts : Option Shown) → from ≤ℤ u → from ≤ℤ v
    → place u ≡ place v → IsSeenAt compared content u facts → IsSeenAt compared content v facts
seen_moved compared content from past u v facts low high same is = (is.0, answers_moved content from past u v is.0 low high same is.1, is.2)

module _ (pair : Pair) (start : ℤ) (none : NoneComes pair start) where
  differ_moved : (u v : ℤ) → start ≤ℤ u → start ≤ℤ v → place u ≡ place v → DifferAt pair u → DifferAt pair v
  differ_moved u v low high same differs = record {
    old = differs.old;
    new = differs.new;
    are_seen = record {
      of_old = seen_moved pair.compared pair.old start none.old u v differs.old low high same differs.are_seen.of_old;
      of_new = seen_moved pair.compared pair.new start none.new u v differs.new low high same differs.are_seen.of_new;
    };
    differ = differs.differ;
  }

  pub agree_ever : ((u : ℤ) → start ≤ℤ u → u <ℤ (start +ℤ pos 12_622_780_800) → AgreeAt pair u) → (u : ℤ) → start ≤ℤ u → AgreeAt pair u
  agree_ever window u later differs =
      let there = start +ℤ place (u -ℤ start) in
      let apart = by_seconds (u -ℤ start) in
      let is_apart = apart.is in
      let low = apart.low in
      let high = apart.high in
      let here = same_place u there (int_div_euclid (u -ℤ start) (pos 12_622_780_800)) (omega (arith, ints, is_apart)) in
      let above : start ≤ℤ there = omega (arith, ints, low) in
      window there above (omega (arith, ints, high)) (differ_moved u there later above here differs)

  pub differ_soon : (u : ℤ) → start ≤ℤ u → DifferAt pair u
      → (v : ℤ) → start ≤ℤ v → (later : ℤ) × (v <ℤ later) × (later ≤ℤ (v +ℤ pos 12_622_780_800)) × DifferAt pair later
  differ_soon u from differs v after =
      let next = v +ℤ pos 1 in
      let later = next +ℤ place (u -ℤ next) in
      let apart = by_seconds (u -ℤ next) in
      let is_apart = apart.is in
      let low = apart.low in
      let high = apart.high in
      let here = same_place u later (int_div_euclid (u -ℤ next) (pos 12_622_780_800)) (omega (arith, ints, is_apart)) in (
        later,
        omega (arith, ints, low),
        omega (arith, ints, high),
        differ_moved u later from (omega (arith, ints, low, after)) here differs,
      )

  pub differ_ever : (u : ℤ) → start ≤ℤ u → DifferAt pair u → DifferForEver pair
  differ_ever u from differs t =
      let (later, above, within, there) = differ_soon u from differs (int_max t start) (omega (arith, ints, clamps)) in
      (later, omega (arith, ints, clamps, above), there)

pub decide : FourHundredYearsDecide
decide = record { agree = agree_ever; differ = differ_soon }

-- the bounds reach from an instant before another, after which no transition comes, to 400 years after that, as far as 64 bits reach
pub record IsStart (pair : Pair) (bounds : Instants) (start : ℤ) : Type 0 where
  pub none : NoneComes pair start
  pub from : bounds.first ≤ℤ start
  pub reach : (bounds.last ≡ MAX_INSTANT) ⊎ (bounds.last ≡ start +ℤ pos 12_622_780_800)

pub is_start : (pair : Pair) (bounds : Instants) (old new : ℤ) → bounds.first ≤ℤ old → (IsBeforeLast pair.old old → ⊥) → old ≤ℤ new → (IsBeforeLast pair.new new → ⊥)
    → FitsSigned w64 new → bounds.last ≡ saturate_signed w64 (new +ℤ pos 12_622_780_800) → IsStart pair bounds new
is_start pair bounds old new from past_old order past_new fits is = record {
  none = record { old = past_later pair.old old past_old new order; new = past_new };
  from = omega (arith, ints, from, order);
  reach = later_or_end new bounds.last fits is;
}

-- ---- the first difference and the last

-- files differ throughout a difference
pub differ_within : (pair : Pair) (bounds : Instants) (d : Difference) (t : ℤ) → IsDifference pair bounds d → Includes d.instants t → DifferAt pair t
differ_within pair bounds d t is inside = record { old = answered d.old; new = answered d.new; are_seen = is.throughout t inside; differ = is.differ }

module _ (pair : Pair) (bounds : Instants) (found : List Difference) (are : AreDifferences pair bounds found) where
  difference : (k : ℕ) (d : Difference) → slice_get found k ≡ Some d → IsDifference pair bounds d
  difference k d at = all_got (IsDifference pair bounds) found k d are.each at

  -- differences in their order
  ordered : (i j : ℕ) (a b : Difference) → slice_get found i ≡ Some a → slice_get found j ≡ Some b → i < j → a.instants.last <ℤ b.instants.first
  ordered i j a b at_a at_b lt =
      let order = are.in_order i j a lt (slice_get_within found j b at_b) in
      subst (λ (x : Difference). a.instants.last <ℤ x.instants.first) (get_or_from_slice_get found j b a at_b)
      (subst (λ (x : Difference). x.instants.last <ℤ (get_or found j a).instants.first) (get_or_from_slice_get found i a a at_a) order)

  same_element : (k : ℕ) (a b : Difference) → slice_get found k ≡ Some a → slice_get found k ≡ Some b → a ≡ b
  same_element k a b at_a at_b = sym (get_or_from_slice_get found k a a at_a) ∙ get_or_from_slice_get found k b a at_b

  not_before : (first : Difference) → slice_get found 0 ≡ Some first → (k : ℕ) (d : Difference) → slice_get found k ≡ Some d → first.instants.first ≤ℤ d.instants.first
  not_before first at zero d at_d = subst (λ (x : Difference). first.instants.first ≤ℤ x.instants.first) (same_element 0 first d at at_d) (omega (arith, ints))
  not_before first at (suc k) d at_d =
      let order = ordered 0 (suc k) first d at at_d (omega arith) in
      let some = (difference 0 first at).some in
      omega (arith, ints, order, some)

  not_after : (last : Difference) → slice_get found (length found - 1) ≡ Some last → (k : ℕ) (d : Difference) → slice_get found k ≡ Some d → d.instants.last ≤ℤ last.instants.last
  not_after last at k d at_d = elim (cases_lt k (length found - 1)) [
    | inl earlier ↦
        let order = ordered k (length found - 1) d last at_d at earlier in
        let some = (difference (length found - 1) last at).some in
        omega (arith, ints, order, some)
    | inr same ↦
        let within = slice_get_within found k d at_d in
        let is : k ≡ length found - 1 = omega (arith, same, within) in
        subst (λ (x : Difference). d.instants.last ≤ℤ x.instants.last) (same_element (length found - 1) d last (subst (λ (i : ℕ). slice_get found i ≡ Some d) is at_d) at)
        (omega (arith, ints))
  ]

  -- the difference in which two files differ at an instant
  at_instant : (t : ℤ) → Includes bounds t → DifferAt pair t → (k : ℕ) × (d : Difference) × (slice_get found k ≡ Some d) × Includes d.instants t
  at_instant t inside differs =
      let (k, d, lt, is, within) = are.all t inside differs in
      (k, d, slice_get-get_or found k d lt ∙ ap (λ (x : Difference). Some x) is, within)

  pub first_is : (first : Difference) → slice_get found 0 ≡ Some first → IsFirstDifference pair bounds.first first.instants.first
  first_is first at = let is = difference 0 first at in let some = is.some in let to = is.to in record {
    from = is.from;
    differ = differ_within pair bounds first first.instants.first is (record { from = omega (arith, ints); to = some });
    before = λ t from before differs.
        let (k, d, at_d, inside) = at_instant t (record { from = from; to = omega (arith, ints, before, some, to) }) differs in
        let low = not_before first at k d at_d in
        let begins = inside.from in
        omega (arith, ints, low, begins, before);
  }

  -- what they answer there
  pub first_seen : (first : Difference) → slice_get found 0 ≡ Some first → HasAnswersAt pair first first.instants.first
  first_seen first at = let is = difference 0 first at in let some = is.some in is.throughout first.instants.first (record { from = omega (arith, ints); to = some })

  pub none_after : (last : Difference) → slice_get found (length found - 1) ≡ Some last → (t : ℤ) → last.instants.last <ℤ t → t ≤ℤ bounds.last → AgreeAt pair t
  none_after last at t after to differs =
      let is = difference (length found - 1) last at in
      let from = is.from in
      let some = is.some in
      let (k, d, at_d, inside) = at_instant t (record { from = omega (arith, ints, from, some, after); to = to }) differs in
      let low = not_after last at k d at_d in
      let ends = inside.to in
      omega (arith, ints, low, ends, after)

  -- none at all
  pub none_within : length found ≡ 0 → (t : ℤ) → Includes bounds t → AgreeAt pair t
  none_within none t inside differs =
      let (k, d, lt, is, within) = are.all t inside differs in
      omega (arith, lt, none)

  -- ---- their summary

  module _ (start : ℤ) (is_start : IsStart pair bounds start) where
    -- agreement on the rest of the bounds goes on
    on_and_on : (t : ℤ) → t ≤ℤ start → ((u : ℤ) → t ≤ℤ u → u ≤ℤ bounds.last → AgreeAt pair u) → AgreeFrom pair t
    on_and_on t order agree = λ u later within differs.
        by_lt_z bounds.last u
        (λ beyond. beyond_bounds u within beyond differs is_start.reach)
        (λ inside. agree u later inside differs)
      where
        beyond_bounds : (u : ℤ) → u ≤ℤ MAX_INSTANT → bounds.last <ℤ u → DifferAt pair u → (bounds.last ≡ MAX_INSTANT) ⊎ (bounds.last ≡ start +ℤ pos 12_622_780_800) → ⊥
        beyond_bounds u within beyond differs (inl is) = omega (arith, ints, is, within, beyond)
        beyond_bounds u within beyond differs (inr is) =
            agree_ever pair start is_start.none (λ v later before. agree v (omega (arith, ints, order, later)) (omega (arith, ints, is, before))) u (omega (arith, ints, is, beyond)) differs

    pub agree_from : length found ≡ 0 → AgreeFrom pair bounds.first
    agree_from empty = on_and_on bounds.first is_start.from (λ u later within. none_within empty u (record { from = later; to = within }))

    pub ends : (last : Difference) (until : Option ℤ) → slice_get found (length found - 1) ≡ Some last
        → MatchOption until (start ≤ℤ last.instants.last) (λ end. (last.instants.last <ℤ start) × (end ≡ last.instants.last +ℤ pos 1))
        → MatchOption until (DifferForEver pair) (IsEndOfDifference pair)
    ends last None at later =
        let is = difference (length found - 1) last at in
        let some = is.some in
        differ_ever pair start is_start.none last.instants.last later
        (differ_within pair bounds last last.instants.last is (record { from = some; to = omega (arith, ints) }))
    ends last (Some end) at (before, next) =
        let is = difference (length found - 1) last at in
        let some = is.some in
        record {
          differ = differ_within pair bounds last (end -ℤ pos 1) is (record { from = omega (arith, ints, some, next); to = omega (arith, ints, next) });
          agree = on_and_on end (omega (arith, ints, before, next)) (λ u later within. none_after last at u (omega (arith, ints, next, later)) within);
        }

    pub summary_is : (first last : Difference) (summary : Summary) → slice_get found 0 ≡ Some first → slice_get found (length found - 1) ≡ Some last
        → summary.from ≡ first.instants.first → answered summary.old ≡ answered first.old → answered summary.new ≡ answered first.new
        → MatchOption summary.until (start ≤ℤ last.instants.last) (λ end. (last.instants.last <ℤ start) × (end ≡ last.instants.last +ℤ pos 1))
        → IsSummary pair bounds.first summary
    summary_is first last summary at_first at_last from_is old_is new_is until_is = record {
      from = subst (λ (t : ℤ). IsFirstDifference pair bounds.first t) (sym from_is) (first_is first at_first);
      answers = rw (from_is, old_is, new_is) (first_seen first at_first);
      until = ends last summary.until at_last until_is;
    }
