-- Two rules that go on for ever alternate just where between two moments of each lies one of the other.
use Rattle.std.proofs.Common.{◌≡◌, ℕ, ◌*◌, ◌⊎◌, inl, inr, All, List, refl, sym, ap, subst, ◌∙◌, arith}
use Rattle.std.specs.Prelude.{ℤ, pos, ◌+ℤ◌, ◌-ℤ◌, ◌<ℤ◌, ◌≤ℤ◌}
use Rattle.std.proofs.lemmas.Int.{ints, by_lt_z}
use borrow.Author.Differences.{up}
use Rattle.zic_lines.specs.declared.rule_line.Moment.{Moment}
use Rattle.zic_lines.specs.declared.rule_line.Rule.{Rule}
use Rattle.zic_lines.specs.declared.zone_line.ZoneLine.{ZoneLine}
use Rattle.zic_source.specs.Sound.{IsSoundRule}
use Rattle.zic_base.proofs.Elements.{get_contained, all_got}
use Rattle.zic_states.specs.OccurrenceLaws.{IsLastOccurrence}
use Rattle.zic_states.specs.Occurrence.{RuleSet, Occurrence, IsOccurrence, nominal, nominal_second, year_second}
use Rattle.zic_states.specs.Order.{IsPredecessor}
use Rattle.zic_states.proofs.Bounds.{two_years, rises_with_year}
use Rattle.zic_states.proofs.Same.{one_place}
use Rattle.zic_states.specs.Tail.{Alternate}
use Rattle.zic_states.proofs.TailRepeats.{follows_another}
use Rattle.zic_states.proofs.TailSet.{rule_in, IsNamedTo, continues_after, occurs_after, some_last, last_is_after}
use Rattle.zic_rules.specs.Tail.{AreContinuing}
use Rattle.zic_rules.specs.declared.tail.TailRule.{TailRule}
use Rattle.zic_footer.specs.code.Turns.{IsYearly, LiesBetween, FollowInTurn}
use Rattle.zic_footer.proofs.Moments.{two_years_later, between_sooner}
use Rattle.zic_footer.proofs.TailRules.{AreTwo, turned, yearly}
use Rattle.zic_footer.proofs.InTurn.{other_before}

module _ (set : RuleSet) (standard last : ℤ) (given : IsNamedTo set standard last) (line : ZoneLine) (numbers : List ℕ) (tails : List TailRule)
    (continuing : AreContinuing set numbers) (one other : TailRule) (two : AreTwo set line numbers tails one other) where
  sound : All IsSoundRule set.rules
  sound = given.ordered.sound

  -- the one rule and the other, in a year
  abbrev mine : ℤ → Occurrence
  mine year = rule_in two.start two.starts.0 year

  abbrev its : ℤ → Occurrence
  its year = rule_in two.stop two.stops.0 year

  is_mine : (year : ℤ) → last ≤ℤ year → IsOccurrence set (mine year)
  is_mine year after = occurs_after set standard last given two.start two.starts.0 year two.starts.1.member two.starts.1.continues after

  is_its : (year : ℤ) → last ≤ℤ year → IsOccurrence set (its year)
  is_its year after = occurs_after set standard last given two.stop two.stops.0 year two.stops.1.member two.stops.1.continues after

  rises : (y z : ℤ) → last ≤ℤ y → y <ℤ z → nominal (mine y) <ℤ nominal (mine z)
  rises y z after lt = rises_with_year set (mine y) z sound (is_mine y after) (is_mine z (omega (arith, ints))) lt

  no_fall : (y z : ℤ) → last ≤ℤ y → y ≤ℤ z → nominal (mine y) ≤ℤ nominal (mine z)
  no_fall y z after le = by_lt_z y z
      (λ lt. let rise = rises y z after lt in omega (arith, ints))
      (λ ge. let same : y ≡ z = omega (arith, ints) in rw same (omega (arith, ints)))

  yearly_mine : IsYearly two.starts.0.moment
  yearly_mine = yearly two.starts.0 (all_got IsSoundRule set.rules two.start two.starts.0 sound two.starts.1.member.numbered) two.starts.1.continues

  yearly_its : IsYearly two.stops.0.moment
  yearly_its = yearly two.stops.0 (all_got IsSoundRule set.rules two.stop two.stops.0 sound two.stops.1.member.numbered) two.stops.1.continues

  -- ---- where they follow in turn, no two neighbours are of the one

  no_neighbours : ((year : ℤ) → LiesBetween two.starts.0.moment two.stops.0.moment year) → (y z : ℤ) → last <ℤ y → last <ℤ z
      → IsPredecessor set (mine y) (mine z) → ⊥
  no_neighbours between y z after_y after_z pred =
      let earlier = pred.earlier in
      let lt : z <ℤ y = by_lt_z z y (λ lt. lt) (λ ge. let rise = no_fall y z (omega (arith, ints)) ge in absurd (omega (arith, ints))) in
      let there = between (y -ℤ pos 1) in
      let next : (y -ℤ pos 1) +ℤ pos 1 ≡ y = omega (arith, ints) in
      let above = there.after in
      let below = subst (λ (x : ℤ). nominal (its there.other) <ℤ nominal (mine x)) next there.before in
      let from : last ≤ℤ there.other = by_lt_z there.other last
      (λ early. let far = two_years_later two.stops.0.moment two.starts.0.moment there.other (y -ℤ pos 1) yearly_its yearly_mine (omega (arith, ints)) in absurd (omega (arith, ints)))
      (λ late. late) in
      let bound = pred.greatest (its there.other) (is_its there.other from) below in
      let least = no_fall z (y -ℤ pos 1) (omega (arith, ints)) (omega (arith, ints)) in
      omega (arith, ints)

  -- an occurrence of the one by its number
  mine_is : (o : Occurrence) → IsOccurrence set o → o.number ≡ two.start → o ≡ mine o.year
  mine_is o is e =
      let same_rule = one_place set.rules o.number two.start o.rule two.starts.0 e is.member.numbered two.starts.1.member.numbered in
      λ k. record { number = e k; rule = same_rule k; year = o.year }

  pub not_two : ((year : ℤ) → LiesBetween two.starts.0.moment two.stops.0.moment year) → (o p : Occurrence) → IsOccurrence set o → IsPredecessor set o p
      → last <ℤ o.year → last <ℤ p.year → o.number ≡ two.start → p.number ≡ two.start → ⊥
  not_two between o p is pred after_o after_p at_o at_p =
      let as_mine = subst (λ (x : Occurrence). IsPredecessor set x p) (mine_is o is at_o) pred in
      let both = subst (λ (x : Occurrence). IsPredecessor set (mine o.year) x) (mine_is p pred.is at_p) as_mine in
      no_neighbours between o.year p.year after_o after_p both

  -- what occurs after the last year is of one of the two
  pub of_two : (o : Occurrence) → IsOccurrence set o → last <ℤ o.year → (o.number ≡ two.start) ⊎ (o.number ≡ two.stop)
  of_two o is after =
      let has = continuing.all o.number o.rule is.member (continues_after set standard last given o is after) in
      two.at has.0 o.number (get_contained numbers o.number has)

  -- ---- where they alternate, between two of the one lies the other

  module _ (alternate : Alternate set last) where
    late_between : (o : Occurrence) (u : ℤ) → IsLastOccurrence set standard (year_second (last +ℤ pos 3) -ℤ pos 1) o u → last <ℤ o.year
        → (year : ℤ) → (o.year +ℤ pos 2) ≤ℤ year → LiesBetween two.starts.0.moment two.stops.0.moment year
    late_between o u before_end after year late =
        let next = year +ℤ pos 1 in
        let is_here = is_mine year (omega (arith, ints)) in
        let is_next = is_mine next (omega (arith, ints)) in
        let later = two_years set o (mine next) sound before_end.is is_next (omega (arith, ints)) in
        let follow = follows_another set standard last given alternate o u before_end after (mine next) is_next (omega (arith, ints)) in
        let p = follow.before in
        let stops = other_before set standard last given alternate o u before_end after line numbers tails continuing one other two (mine next) follow refl in
        let its_rule = one_place set.rules p.number two.stop p.rule two.stops.0 stops follow.predecessor.is.member.numbered two.stops.1.member.numbered in
        let same : nominal p ≡ nominal (its p.year) = ap (λ (r : Rule). nominal_second p.year r.moment) its_rule in
        let bound = follow.predecessor.greatest (mine year) is_here (rises year next (omega (arith, ints)) (omega (arith, ints))) in
        let earlier = follow.predecessor.earlier in
        let above : nominal (mine year) <ℤ nominal p = by_lt_z (nominal (mine year)) (nominal p) (λ lt. lt)
        (λ ge.
        let tied = given.ordered.order.differ (mine year) p is_here follow.predecessor.is (omega (arith, ints)) in
        absurd (two.differ (tied.number ∙ stops))) in
        record { other = p.year; after = omega (arith, ints); before = omega (arith, ints) }

    pub always_between : (year : ℤ) → LiesBetween two.starts.0.moment two.stops.0.moment year
    always_between year =
        let late : (year_second (last +ℤ pos 3) -ℤ pos 1) ≤ℤ (year_second (last +ℤ pos 3) -ℤ pos 1) = omega (arith, ints) in
        let end = year_second (last +ℤ pos 3) -ℤ pos 1 in
        let (o, u, before_end) = some_last set standard last given two.start two.starts.0 two.starts.1.member two.starts.1.continues end late in
        let after = last_is_after set standard last given two.start two.starts.0 two.starts.1.member two.starts.1.continues end o u late before_end in
        let k = up ((o.year +ℤ pos 2) -ℤ year) in
        let later = year +ℤ pos (400 * k) in
        between_sooner two.starts.0.moment two.stops.0.moment k year later refl
        (late_between o u before_end after later (omega (arith, ints)))

-- ---- both

same_between : (a b c d : Moment) (year : ℤ) → a ≡ c → b ≡ d → LiesBetween a b year → LiesBetween c d year
same_between a b c d year e f between =
    subst (λ (m : Moment). LiesBetween c m year) f (subst (λ (m : Moment). LiesBetween m b year) e between)

module _ (set : RuleSet) (standard last : ℤ) (given : IsNamedTo set standard last) (line : ZoneLine) (numbers : List ℕ) (tails : List TailRule)
    (continuing : AreContinuing set numbers) (one other : TailRule) (two : AreTwo set line numbers tails one other) where
  abbrev two_turned : AreTwo set line numbers tails other one
  two_turned = turned set line numbers tails one other two

  pub alternate_from : FollowInTurn one.moment other.moment → Alternate set last
  alternate_from in_turn o p is pred after_o after_p same =
      let mine_between = λ (year : ℤ). same_between one.moment other.moment two.starts.0.moment two.stops.0.moment year two.starts.1.is.moment two.stops.1.is.moment (in_turn year).0 in
      let its_between = λ (year : ℤ). same_between other.moment one.moment two.stops.0.moment two.starts.0.moment year two.stops.1.is.moment two.starts.1.is.moment (in_turn year).1 in
      elim (of_two set standard last given line numbers tails continuing one other two o is after_o) [
        | inl e ↦ not_two set standard last given line numbers tails continuing one other two mine_between o p is pred after_o after_p e (sym same ∙ e)
        | inr e ↦ not_two set standard last given line numbers tails continuing other one two_turned its_between o p is pred after_o after_p e (sym same ∙ e)
      ]

  pub in_turn_from : Alternate set last → FollowInTurn one.moment other.moment
  in_turn_from alternate year = (
    same_between two.starts.0.moment two.stops.0.moment one.moment other.moment year (sym two.starts.1.is.moment) (sym two.stops.1.is.moment)
        (always_between set standard last given line numbers tails continuing one other two alternate year),
    same_between two.stops.0.moment two.starts.0.moment other.moment one.moment year (sym two.stops.1.is.moment) (sym two.starts.1.is.moment)
        (always_between set standard last given line numbers tails continuing other one two_turned alternate year),
  )
