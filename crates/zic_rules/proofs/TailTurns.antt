-- What a zone shows by rules that go on for ever, from its explicit end on, and from its last change on where two of them follow
-- each other in turn.
use Rattle.std.proofs.Common.{◌≡◌, ◌≤◌, ◌⊎◌, inl, inr, ⊎_elim, ℕ, zero, suc, List, [], ◌∷◌, length, get_or, Some, refl, sym, ap, subst, ◌∙◌, arith}
use Rattle.std.specs.Prelude.{ℤ, pos, ◌+ℤ◌, ◌-ℤ◌, ◌<ℤ◌, ◌≤ℤ◌, slice_get, ◌≢◌}
use Rattle.std.proofs.lemmas.Int.{ints, by_lt_z}
use Rattle.std.proofs.lemmas.Option.{same_Some}
use Rattle.zic_base.specs.State.{Shown}
use Rattle.zic_lines.specs.declared.rules.Rules.{Rules}
use Rattle.zic_base.proofs.Elements.{got, get_contained}
use Rattle.zic_states.specs.OccurrenceLaws.{IsLastOccurrence}
use Rattle.zic_states.specs.Occurrence.{RuleSet, Occurrence, nominal, year_second}
use Rattle.zic_states.proofs.Instants.{some_instant, instants_rise}
use Rattle.zic_states.specs.Abbreviation.{abbreviation}
use Rattle.zic_states.specs.Change.{IsChange, IsAfterChanges}
use Rattle.zic_states.specs.End.{IsEndBy, IsEnd}
use Rattle.zic_states.specs.InForce.{in_force_from}
use Rattle.zic_states.specs.Laws.{IsOrderly}
use Rattle.zic_states.specs.Tail.{IsContinuing, HasContinuing, HasJustInForce, Alternate, FollowsAnother}
use Rattle.zic_states.specs.Until.{set_of}
use Rattle.zic_states.specs.Zone.{Zone}
use Rattle.zic_states.proofs.Ends.{one_end}
use Rattle.zic_states.proofs.TailForEver.{alternates_for_ever}
use Rattle.zic_states.proofs.TailInForce.{given, has_from_last, by_continuing}
use Rattle.zic_states.proofs.TailRepeats.{follow}
use Rattle.zic_states.proofs.TailSet.{rule_in, some_last, last_is_after, continues_after, own_instant}
use Rattle.zic_states.proofs.TailWindow.{settled}
use Rattle.zic_rules.specs.Laws.{LastIsChange}
use Rattle.zic_rules.specs.Tail.{IsTailBy, ShowsLast, AreOfBothFlags, IsRulesTail, tail_state}
use Rattle.zic_rules.specs.declared.tail.TailRule.{TailRule}
use Rattle.zic_rules.proofs.TailLines.{IsSetLine}

-- two places of a pair have the two elements
other_place : (a b x y : TailRule) (i j : ℕ) → slice_get (a ∷ b ∷ []) i ≡ Some x → slice_get (a ∷ b ∷ []) j ≡ Some y → (i ≡ j → ⊥)
    → ((x ≡ a) × (y ≡ b)) ⊎ ((x ≡ b) × (y ≡ a))
other_place a b x y zero zero at_i at_j differ = absurd (differ refl)
other_place a b x y zero (suc zero) at_i at_j differ = inl (sym (same_Some a x at_i), sym (same_Some b y at_j))
other_place a b x y (suc zero) zero at_i at_j differ = inr (sym (same_Some b x at_i), sym (same_Some a y at_j))
other_place a b x y (suc zero) (suc zero) at_i at_j differ = absurd (differ refl)
other_place a b x y (suc (suc i)) j at_i at_j differ = absurd cc
other_place a b x y i (suc (suc j)) at_i at_j differ = absurd cc

other_flag : (tails : List TailRule) (x y : TailRule) (i j : ℕ) → AreOfBothFlags tails → slice_get tails i ≡ Some x → slice_get tails j ≡ Some y
    → (i ≡ j → ⊥) → x.saving.daylight ≢ y.saving.daylight
other_flag tails x y i j (a, b, two, flags) at_i at_j differ e =
    let at_a = subst (λ (ts : List TailRule). slice_get ts i ≡ Some x) two at_i in
    let at_b = subst (λ (ts : List TailRule). slice_get ts j ≡ Some y) two at_j in
    ⊎_elim
    (λ one. flags (ap (λ (t : TailRule). t.saving.daylight) (sym one.0) ∙ e ∙ ap (λ (t : TailRule). t.saving.daylight) one.1))
    (λ other. flags (ap (λ (t : TailRule). t.saving.daylight) (sym other.1) ∙ sym e ∙ ap (λ (t : TailRule). t.saving.daylight) other.0))
    (other_place a b x y i j at_a at_b differ)

module _ (zone : Zone) (orderly : IsOrderly zone) (end : ℤ) (is_end : IsEnd zone end) (tails : List TailRule) (of : IsSetLine zone end tails) (two : 2 ≤ length tails)
    (standard year : ℤ) (standard_is : standard ≡ of.line.offset) (year_is : year ≡ of.year +ℤ pos 1) where
  abbrev set : RuleSet
  set = set_of zone.source.rules of.name

  abbrev by : IsTailBy zone standard year tails
  by = record {
    number = of.number;
    line = of.line;
    name = of.name;
    last = of.year;
    last_set = of.tail;
    of_line = standard_is;
    after_last = year_is;
    numbers = of.numbers;
    continuing = of.continuing;
    rules = of.rules;
    several = let many = of.rules.as_many in omega (arith, many);
  }

  -- one of them
  some_number : HasContinuing set
  some_number =
      let many = of.rules.as_many in
      let (rule, member, continues) = of.continuing.each 0 0 (omega (arith, many)) in
      (get_or of.numbers 0 0, rule, member, continues)

  -- the zone shows what this occurrence begins
  abbrev ShowsFrom : ℤ → Occurrence → Type 0
  ShowsFrom t o = (shows : ShowsLast zone set standard year of.numbers tails t) × (shows.occurrence ≡ o)

  -- where an occurrence of a later year is the last, it is of one of these rules, and the zone shows what the rule begins
  shows_by : (t : ℤ) (o : Occurrence) (u : ℤ) → IsLastOccurrence set of.line.offset t o u → of.year <ℤ o.year → IsContinuing o.rule
      → HasJustInForce zone t of.line (in_force_from o) → ShowsFrom t o
  shows_by t o u last after continues keeps =
      let has = of.continuing.all o.number o.rule last.is.member continues in
      let at = get_contained of.numbers o.number has in
      let many = of.rules.as_many in
      let (tail, at_tail) = got tails has.0 (omega (arith, many, has.1)) in
      let is = of.rules.each has.0 o.number o.rule tail at last.is.member.numbered at_tail in
      let offset : standard +ℤ tail.saving.seconds ≡ of.line.offset +ℤ o.rule.saving.seconds = λ k. standard_is k +ℤ (is.saving k).seconds in (
        record {
          occurrence = o;
          instant = u;
          current = subst (λ (s : ℤ). IsLastOccurrence set s t o u) (sym standard_is) last;
          in_years = omega (arith, ints);
          place = has.0;
          number = at;
          tail = tail;
          is_tail = at_tail;
          shows = record {
            line = of.line;
            in_force = in_force_from o;
            keeps = keeps.keeps;
            offset = offset;
            daylight = λ k. (is.saving k).daylight;
            name = ap (λ (s : ℤ). abbreviation of.line.format s o.rule.saving.daylight (Some o.rule.letter)) offset ∙ is.name;
          };
        },
        refl,
      )

  from_end : (t : ℤ) → (end -ℤ pos 1) ≤ℤ t → ShowsLast zone set standard year of.numbers tails t
  from_end t late =
      let is = of.end_is in
      let keeps = by_continuing zone orderly of.number of.line of.name of.year of.tail some_number t (omega (arith, ints)) in
      (shows_by t keeps.occurrence keeps.instant keeps.current keeps.after keeps.continues keeps.keeps).0

  -- ---- in turn

  module _ (both : AreOfBothFlags tails) (alternate : Alternate set of.year) (o : Occurrence) (u : ℤ)
      (last : IsLastOccurrence set of.line.offset (year_second (of.year +ℤ pos 3) -ℤ pos 1) o u) where
    follows : FollowsAnother set of.year o
    follows = alternates_for_ever zone orderly of.number of.line of.name of.year of.tail some_number alternate o u last o last.is (omega (arith, ints))

    -- the occurrence before the last
    before_last : (w : ℤ) × IsLastOccurrence set of.line.offset (u -ℤ pos 1) follows.before w
    before_last =
        let from = given zone orderly of.number of.line of.name of.year of.tail in
        let pred = follows.predecessor in
        let (w, at) = some_instant set of.line.offset follows.before from.ordered.sound pred.is in
        let rise = instants_rise set of.line.offset follows.before o w u from.ordered.sound from.ordered.order pred.is last.is at last.instant pred.earlier in (
          w,
          record {
            is = pred.is;
            instant = at;
            not_after = omega (arith, ints);
            last = λ q v is_q at_q le. by_lt_z (nominal q) (nominal o)
                (λ lt. follow set of.line.offset of.year from q follows.before v w is_q pred.is at_q at (pred.greatest q is_q lt))
                (λ ge. let later = follow set of.line.offset of.year from o q u v last.is is_q last.instant at_q ge in absurd (omega (arith, ints)));
          },
        )

    -- which comes after the year too
    not_before : (w : ℤ) → IsLastOccurrence set of.line.offset (u -ℤ pos 1) follows.before w → settled of.year ≤ℤ w
    not_before w before =
        let from = given zone orderly of.number of.line of.name of.year of.tail in
        let number = follows.before.number in
        let rule = follows.before.rule in
        let (later, x, is, at, late, early) = own_instant set of.line.offset of.year from number rule before.is.member follows.continues in
        let own = rule_in number rule later in
        let not_past : x ≤ℤ u = last.last own x is at (omega (arith, ints)) in
        by_lt_z x u
        (λ lt. let earlier = before.last own x is at (omega (arith, ints)) in omega (arith, ints))
        (λ ge.
        by_lt_z (nominal own) (nominal o)
        (λ lt. let rise = instants_rise set of.line.offset own o x u from.ordered.sound from.ordered.order is last.is at last.instant lt in absurd (omega (arith, ints)))
        (λ not_lt.
        by_lt_z (nominal o) (nominal own)
        (λ lt. let rise = instants_rise set of.line.offset o own u x from.ordered.sound from.ordered.order last.is is last.instant at lt in absurd (omega (arith, ints)))
        (λ not_gt. absurd (follows.another (from.ordered.order.differ o own last.is is (omega (arith, ints))).number))))

    after : of.year <ℤ o.year
    after =
        let from = given zone orderly of.number of.line of.name of.year of.tail in
        let (number, rule, member, continues) = some_number in
        last_is_after set of.line.offset of.year from number rule member continues (year_second (of.year +ℤ pos 3) -ℤ pos 1) o u (omega (arith, ints)) last

    continues : IsContinuing o.rule
    continues = continues_after set of.line.offset of.year (given zone orderly of.number of.line of.name of.year of.tail) o last.is after

    -- from the last occurrence before the end on, also up to the end
    from_last : (t : ℤ) → u ≤ℤ t → t <ℤ end → ShowsFrom t o
    from_last t le lt =
        let (w, before) = before_last in
        let settled_by = not_before w before in
        let earlier = before.not_after in
        let is = of.end_is in
        let current : IsLastOccurrence set of.line.offset t o u = record {
          is = last.is;
          instant = last.instant;
          not_after = le;
          last = λ q v is_q at_q not_after. last.last q v is_q at_q (omega (arith, ints));
        } in
        shows_by t o u current after continues
        (has_from_last zone orderly of.number of.line of.name of.year of.tail t o u (omega (arith, ints)) current)

    -- one second before the last occurrence the zone shows what the one before it begins
    one_before : (w : ℤ) → IsLastOccurrence set of.line.offset (u -ℤ pos 1) follows.before w → ShowsFrom (u -ℤ pos 1) follows.before
    one_before w before =
        let settled_by = not_before w before in
        let earlier = before.not_after in
        shows_by (u -ℤ pos 1) follows.before w before follows.after follows.continues
        (has_from_last zone orderly of.number of.line of.name of.year of.tail (u -ℤ pos 1) follows.before w (omega (arith, ints)) before)

    -- so the last occurrence before the end is a change
    pub last_is_change : IsChange zone u
    last_is_change =
        let (w, before) = before_last in
        let not_late = last.not_after in
        let is = of.end_is in
        let now = from_last u (omega (arith, ints)) (omega (arith, ints)) in
        let was = one_before w before in
        record {
          end = end;
          is_end = is_end;
          before_end = omega (arith, ints);
          state = tail_state standard now.0.tail;
          earlier = tail_state standard was.0.tail;
          shows = now.0.shows;
          showed = was.0.shows;
          differs = λ e. other_flag tails now.0.tail was.0.tail now.0.place was.0.place both now.0.is_tail was.0.is_tail
              (λ same.
              let number = same_Some now.0.occurrence.number was.0.occurrence.number (sym now.0.number ∙ ap (slice_get of.numbers) same ∙ was.0.number) in
              follows.another (ap (λ (q : Occurrence). q.number) (sym now.1) ∙ number ∙ ap (λ (q : Occurrence). q.number) was.1))
              (ap (λ (s : Shown). s.daylight) e);
        }

  -- from the last change on
  from_change : AreOfBothFlags tails → Alternate set of.year → (t : ℤ) → IsAfterChanges zone t → ShowsLast zone set standard year of.numbers tails t
  from_change both alternate t none_after =
      let from = given zone orderly of.number of.line of.name of.year of.tail in
      let (number, rule, member, continues) = some_number in
      let (o, u, last) = some_last set of.line.offset of.year from number rule member continues (year_second (of.year +ℤ pos 3) -ℤ pos 1) (omega (arith, ints)) in
      let not_before = none_after u (last_is_change both alternate o u last) in
      by_lt_z t end
      (λ lt. (from_last both alternate o u last t not_before lt).0)
      (λ ge. from_end t (omega (arith, ints)))

  pub rules_tail : IsRulesTail zone standard year tails
  rules_tail = record {
    by = by;
    from_end = λ t late.
        let (other, is_other, le) = late in
        let same = one_end zone orderly.sets other end is_other is_end in
        from_end t (omega (arith, ints));
    from_change = from_change;
  }

-- the set line of a zone with such a tail
abbrev set_line_by : (zone : Zone) → IsOrderly zone → (end : ℤ) → IsEnd zone end → (standard year : ℤ) (tails : List TailRule) (tail : IsTailBy zone standard year tails)
    → IsSetLine zone end tails
set_line_by zone orderly end is_end standard year tails tail = record {
  number = tail.number;
  line = tail.line;
  name = tail.name;
  year = tail.last;
  tail = tail.last_set;
  end_is = one_end zone orderly.sets end (year_second (tail.last +ℤ pos 3)) is_end (
    tail.number,
    tail.line,
    tail.last_set.is_last,
    subst (λ (says : Rules). IsEndBy zone tail.number says (year_second (tail.last +ℤ pos 3))) (sym tail.last_set.has_set)
        (tail.last, tail.last_set.last_year, refl),
  );
  numbers = tail.numbers;
  continuing = tail.continuing;
  rules = tail.rules;
}

pub last_occurrence_is_change : LastIsChange
last_occurrence_is_change zone orderly standard year tails tail both alternate end is_end o u last =
    let of = set_line_by zone orderly end is_end standard year tails tail in
    let two : 2 ≤ length tails = let many = tail.rules.as_many in let several = tail.several in omega (arith, many, several) in
    let at_end = subst (λ (e : ℤ). IsLastOccurrence (set_of zone.source.rules tail.name) standard (e -ℤ pos 1) o u) of.end_is last in
    last_is_change zone orderly end is_end tails of two standard year tail.of_line tail.after_last both alternate o u
    (subst (λ (s : ℤ). IsLastOccurrence (set_of zone.source.rules tail.name) s (year_second (tail.last +ℤ pos 3) -ℤ pos 1) o u) tail.of_line at_end)
