-- What two rules in turn begin, from the last occurrence before the explicit end on: instants are those of the string's edges.
use Rattle.std.proofs.Common.{◌≡◌, ℕ, inl, inr, All, List, refl, sym, ap, ◌∙◌, arith}
use Rattle.std.specs.Prelude.{ℤ, pos, ◌+ℤ◌, ◌-ℤ◌, ◌<ℤ◌, ◌≤ℤ◌}
use Rattle.std.proofs.lemmas.Int.{ints, by_lt_z}
use Rattle.zic_lines.specs.declared.time.Saving.{Saving}
use Rattle.zic_lines.specs.declared.rule_line.Moment.{Moment}
use Rattle.zic_lines.specs.declared.rule_line.Rule.{Rule}
use Rattle.zic_lines.specs.declared.zone_line.ZoneLine.{ZoneLine}
use Rattle.zic_source.specs.Sound.{IsSoundRule}
use Rattle.zic_base.proofs.Elements.{get_contained}
use Rattle.zic_states.specs.OccurrenceLaws.{IsLastOccurrence}
use Rattle.zic_states.specs.Occurrence.{RuleSet, Occurrence, IsOccurrence, nominal, nominal_second, year_second}
use Rattle.zic_states.specs.Order.{IsInstant, IsInOrder, instant_by}
use Rattle.zic_states.proofs.Bounds.{years_apart, two_years, instant_from, instant_to, year_second-period}
use Rattle.zic_states.proofs.Instants.{instants_rise}
use Rattle.zic_states.proofs.Same.{one_place, one_instant}
use Rattle.zic_states.specs.Tail.{Alternate, FollowsAnother}
use Rattle.zic_states.proofs.TailRepeats.{follows_another}
use Rattle.zic_states.proofs.TailSet.{rule_in, IsNamedTo, occurs_after}
use Rattle.zic_rules.specs.Tail.{AreContinuing}
use Rattle.zic_rules.specs.declared.tail.TailRule.{TailRule}
use Rattle.zic_footer.proofs.EdgeInstants.{edge}
use Rattle.zic_footer.proofs.TailRules.{AreTwo}

-- one rule by two ways, and the other before it
same_edge : (standard : ℤ) (rule other : TailRule) (year : ℤ) (moment : Moment) (saving : Saving) → rule.moment ≡ moment → other.saving ≡ saving
    → edge standard rule other year ≡ instant_by moment.at.form standard saving.seconds (nominal_second year moment)
same_edge standard rule other year moment saving m s =
    λ k. instant_by (m k).at.form standard (s k).seconds (nominal_second year (m k))

module _ (set : RuleSet) (standard last : ℤ) (given : IsNamedTo set standard last) (alternate : Alternate set last) (o : Occurrence) (u : ℤ)
    (before_end : IsLastOccurrence set standard (year_second (last +ℤ pos 3) -ℤ pos 1) o u) (after : last <ℤ o.year) where
  sound : All IsSoundRule set.rules
  sound = given.ordered.sound

  order : IsInOrder set standard
  order = given.ordered.order

  follows : (q : Occurrence) → IsOccurrence set q → nominal o ≤ℤ nominal q → FollowsAnother set last q
  follows q is le = follows_another set standard last given alternate o u before_end after q is le

  -- what is current from then on isn't earlier
  pub not_earlier : (t : ℤ) (q : Occurrence) (v : ℤ) → u ≤ℤ t → IsLastOccurrence set standard t q v → nominal o ≤ℤ nominal q
  not_earlier t q v le current = by_lt_z (nominal q) (nominal o)
      (λ lt.
      let rises = instants_rise set standard q o v u sound order current.is before_end.is current.instant before_end.instant lt in
      let not_before = current.last o u before_end.is before_end.instant le in
      absurd (omega (arith, ints)))
      (λ ge. ge)

  module _ (line : ZoneLine) (numbers : List ℕ) (tails : List TailRule) (continuing : AreContinuing set numbers) (one other : TailRule)
      (two : AreTwo set line numbers tails one other) where
    -- what comes before an occurrence of the one rule is of the other
    pub other_before : (q : Occurrence) (follow : FollowsAnother set last q) → q.number ≡ two.start → follow.before.number ≡ two.stop
    other_before q follow e =
        let before = follow.before in
        let has = continuing.all before.number before.rule follow.predecessor.is.member follow.continues in
        elim (two.at has.0 before.number (get_contained numbers before.number has)) [
          | inl same ↦ absurd (follow.another (e ∙ sym same))
          | inr stop ↦ stop
        ]

    -- so it comes at the edge
    pub at_edge : (q : Occurrence) → IsOccurrence set q → nominal o ≤ℤ nominal q → q.number ≡ two.start → IsInstant set standard q (edge standard one other q.year)
    at_edge q is le e =
        let follow = follows q is le in
        let before = follow.before in
        let mine : two.starts.0 ≡ q.rule = one_place set.rules two.start q.number two.starts.0 q.rule (sym e) two.starts.1.member.numbered is.member.numbered in
        let its : two.stops.0 ≡ before.rule = one_place set.rules two.stop before.number two.stops.0 before.rule (sym (other_before q follow e))
        two.stops.1.member.numbered follow.predecessor.is.member.numbered in
        record {
          saved = before.rule.saving.seconds;
          is_saved = inr (before, follow.predecessor, refl);
          is = same_edge standard one other q.year q.rule.moment before.rule.saving
              (two.starts.1.is.moment ∙ ap (λ (r : Rule). r.moment) mine) (two.stops.1.is.saving ∙ ap (λ (r : Rule). r.saving) its);
        }

    -- from two years later on in every year
    occurs : (year : ℤ) → (o.year +ℤ pos 2) ≤ℤ year → IsOccurrence set (rule_in two.start two.starts.0 year)
    occurs year late = occurs_after set standard last given two.start two.starts.0 year two.starts.1.member two.starts.1.continues (omega (arith, ints))

    pub at_edge_in : (year : ℤ) → (o.year +ℤ pos 2) ≤ℤ year → IsInstant set standard (rule_in two.start two.starts.0 year) (edge standard one other year)
    at_edge_in year late =
        let is = occurs year late in
        let later = two_years set o (rule_in two.start two.starts.0 year) sound before_end.is is late in
        at_edge (rule_in two.start two.starts.0 year) is (omega (arith, ints)) refl

    -- the edge of that year comes within 400 years
    soon : edge standard one other (o.year +ℤ pos 2) ≤ℤ (u +ℤ pos 12_622_780_800)
    soon =
        let late : (o.year +ℤ pos 2) ≤ℤ (o.year +ℤ pos 2) = omega (arith, ints) in
        let to = instant_to set standard (rule_in two.start two.starts.0 (o.year +ℤ pos 2)) (edge standard one other (o.year +ℤ pos 2)) (o.year +ℤ pos 3) (omega (arith, ints))
        sound given.ordered.within (occurs (o.year +ℤ pos 2) late) (at_edge_in (o.year +ℤ pos 2) late) in
        let from = instant_from set standard o u sound given.ordered.within before_end.is before_end.instant in
        let apart = years_apart (o.year +ℤ pos 3) (o.year +ℤ pos 400) (omega (arith, ints)) in
        let period = year_second-period o.year (o.year +ℤ pos 400) refl in
        omega (arith, ints)

    -- An edge that isn't after t comes before the current occurrence, where that is of the other rule.
    pub edge_before : ((a b : ℤ) → a <ℤ b → edge standard one other a <ℤ edge standard one other b)
        → (t : ℤ) (q : Occurrence) (v : ℤ) → (u +ℤ pos 12_622_780_800) ≤ℤ t → IsLastOccurrence set standard t q v → q.number ≡ two.stop
        → (year : ℤ) → edge standard one other year ≤ℤ t → edge standard one other year <ℤ v
    edge_before rises t q v late current is_other year le =
        let first = soon in
        by_lt_z year (o.year +ℤ pos 2)
        (λ early.
        let from : (o.year +ℤ pos 2) ≤ℤ (o.year +ℤ pos 2) = omega (arith, ints) in
        let later = rises year (o.year +ℤ pos 2) early in
        let not_past = current.last (rule_in two.start two.starts.0 (o.year +ℤ pos 2)) (edge standard one other (o.year +ℤ pos 2))
        (occurs (o.year +ℤ pos 2) from) (at_edge_in (o.year +ℤ pos 2) from) (omega (arith, ints)) in
        omega (arith, ints))
        (λ from.
        let p = rule_in two.start two.starts.0 year in
        let is = occurs year from in
        let at = at_edge_in year from in
        let not_past = current.last p (edge standard one other year) is at le in
        by_lt_z (nominal p) (nominal q)
        (λ lt. instants_rise set standard p q (edge standard one other year) v sound order is current.is at current.instant lt)
        (λ ge. by_lt_z (nominal q) (nominal p)
        (λ gt. let rise = instants_rise set standard q p v (edge standard one other year) sound order current.is is current.instant at gt in absurd (omega (arith, ints)))
        (λ tied.
        let same = order.differ p q is current.is (omega (arith, ints)) in
        absurd (two.differ (same.number ∙ is_other)))))

    -- and the current occurrence comes at the edge, where it is of the one rule
    pub current_at : (t : ℤ) (q : Occurrence) (v : ℤ) → u ≤ℤ t → IsLastOccurrence set standard t q v → q.number ≡ two.start → v ≡ edge standard one other q.year
    current_at t q v le current e =
        one_instant set standard q v (edge standard one other q.year) order.differ current.instant (at_edge q current.is (not_earlier t q v le current) e)
