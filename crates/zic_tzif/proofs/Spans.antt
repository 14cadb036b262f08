-- Between two changes a content answers the same.
use Rattle.std.proofs.Common.{◌≡◌, ℕ, ◌<◌, ◌≤◌, ℤ, pos, ◌+ℤ◌, ◌<ℤ◌, ◌≤ℤ◌, ◌⊎◌, inl, inr, List, [], length, get_or, Any, Contains, Some, None, refl, sym, ap, subst, ◌∙◌, arith, FitsSigned, w64}
use Rattle.std.specs.Int.{int_max}
use Rattle.std.proofs.lemmas.Int.{ints, clamps, by_lt_z}
use Rattle.zic_base.specs.State.{Shown}
use Rattle.zic_posix.specs.declared.span.Instants.{Instants}
use Rattle.zic_posix.specs.declared.span.TheConstants.{MIN_INSTANT, MAX_INSTANT}
use Rattle.zic_posix.specs.Footer.{TzString}
use Rattle.zic_posix.specs.Instants.{Includes, AreBetween}
use Rattle.zic_posix.specs.Meaning.{HasEdgeAt, MeansThroughout}
use Rattle.zic_posix.proofs.StringLemmas.{spells_one}
use Rattle.zic_tzif.specs.declared.content.Change.{Change}
use Rattle.zic_tzif.specs.Content.{Content, IsFooter}
use Rattle.zic_tzif.specs.Answer.{HasTransitionAt, MayChangeAt, AnswersThroughout}
use Rattle.zic_tzif.specs.Block.{changes_at}
use Rattle.zic_tzif.specs.code.After.{IsStateAfter}
use Rattle.zic_tzif.specs.code.Window.{IsSplit}
use Rattle.zic_tzif.proofs.AnswerLemmas.{spells_none}
use Rattle.zic_tzif.proofs.Search.{IsFound, found, instant_at, same_item, before_last, not_before_last, gives_type, gives_footer, leaves_open}
use Rattle.zic_tzif.proofs.Transitions.{changes_length}

-- ---- times and transitions

time_of : (times : List ℤ) (numbers : List ℕ) (t : ℤ) → length times ≡ length numbers → Any (λ (c : Change). c.instant ≡ t) (changes_at times numbers) → Contains times t
time_of times numbers t same (k, c, within, is, at) =
    let long = changes_length times numbers same in
    let time : get_or times k c.instant ≡ c.instant = sym (instant_at times numbers same k c) ∙ ap (λ (d : Change). d.instant) is in
    (k, omega (arith, within, long), subst (λ (u : ℤ). get_or times k u ≡ u) at time)

transition_of : (times : List ℤ) (numbers : List ℕ) (t : ℤ) → length times ≡ length numbers → Contains times t → Any (λ (c : Change). c.instant ≡ t) (changes_at times numbers)
transition_of times numbers t same (k, within, is) =
    let d : Change = record { instant = t; number = 0 } in
    let long = changes_length times numbers same in
    let there : k < length (changes_at times numbers) = omega (arith, within, long) in
    (k, get_or (changes_at times numbers) k d, there, same_item (changes_at times numbers) k d there, instant_at times numbers same k d ∙ is)

-- what lies between times lies between their transitions
between_transitions : (times : List ℤ) (numbers : List ℕ) (instants : Instants) → length times ≡ length numbers → AreBetween (Contains times) instants
    → AreBetween (λ t. Any (λ (c : Change). c.instant ≡ t) (changes_at times numbers)) instants
between_transitions times numbers instants same between = record {
  first = elim between.first [ inl limit ↦ inl limit | inr time ↦ inr (transition_of times numbers instants.first same time) ];
  last = elim between.last [ inl limit ↦ inl limit | inr time ↦ inr (transition_of times numbers (instants.last +ℤ pos 1) same time) ];
  none = λ t after before transition. between.none t after before (time_of times numbers t same transition);
}

-- ---- between two transitions

-- so many transitions have come at t, which lies in the gap after them
pub record IsPlaced (content : Content) (t : ℤ) (n : ℕ) (gap : Instants) : Type 0 where
  pub point : IsFound content.changes t n
  pub inside : n ≤ length content.changes
  pub between : AreBetween (HasTransitionAt content) gap
  pub here : Includes gap t

pub placed : (content : Content) (times : List ℤ) (numbers : List ℕ) (t : ℤ) (n : ℕ) (gap : Instants) → length times ≡ length numbers → changes_at times numbers ≡ content.changes
    → IsSplit times t n → Includes gap t → AreBetween (Contains times) gap → IsPlaced content t n gap
placed content times numbers t n gap as_many same split here between =
    let long = changes_length times numbers as_many in
    let inside = split.inside in
    let size = ap (λ (changes : List Change). length changes) same in
    record {
      point = subst (λ (changes : List Change). IsFound changes t n) same (found times numbers t n as_many split);
      inside = omega (arith, long, inside, size);
      between = subst (λ (changes : List Change). AreBetween (λ u. Any (λ (c : Change). c.instant ≡ u) changes) gap) same (between_transitions times numbers gap as_many between);
      here = here;
    }

module _ (content : Content) (t : ℤ) (n : ℕ) (gap : Instants) (p : IsPlaced content t n gap) where
  transition_at : (k : ℕ) (d : Change) → k < length content.changes → HasTransitionAt content (get_or content.changes k d).instant
  transition_at k d within = (k, get_or content.changes k d, within, same_item content.changes k d within, refl)

  -- as many transitions have come
  stays : (u : ℤ) → Includes gap u → IsFound content.changes u n
  stays u there = record {
    not_after = λ k below d.
        let instant = (get_or content.changes k d).instant in
        let early : instant ≤ℤ t = p.point.not_after k below d in
        by_lt_z u instant
        (λ lt. absurd (p.between.none instant (omega (arith, ints, there.from)) (omega (arith, ints, p.here.to)) (transition_at k d (let inside = p.inside in omega (arith, below, inside)))))
        (λ ge. ge);
    after = λ k from d within.
        let instant = (get_or content.changes k d).instant in
        let late : t <ℤ instant = p.point.after k from d within in
        by_lt_z u instant
        (λ lt. lt)
        (λ ge. absurd (p.between.none instant (omega (arith, ints, p.here.from)) (omega (arith, ints, there.to)) (transition_at k d within)));
  }

  -- before the last transition
  pub type_throughout : (state : Shown) → n < length content.changes → IsStateAfter content n state → AnswersThroughout content gap (Some state)
  type_throughout state more after = λ u there. gives_type content u n (stays u there) state more after

  pub changes_before_last : n < length content.changes → AreBetween (MayChangeAt content) gap
  changes_before_last more = record {
    first = elim p.between.first [ inl limit ↦ inl limit | inr transition ↦ inr (inl transition) ];
    last = elim p.between.last [ inl limit ↦ inl limit | inr transition ↦ inr (inl transition) ];
    none = λ u after before change. elim change [
      | inl transition ↦ p.between.none u after before transition
      | inr footer ↦ footer.0 (before_last content u n (stays u (record { from = omega (arith, ints); to = before })) more)
    ];
  }

  -- from the last transition on, without a footer
  pub open_throughout : (length content.changes ≡ 0 → ⊥) → length content.changes ≤ n → content.text ≡ [] → AnswersThroughout content gap None
  open_throughout some all none = λ u there. leaves_open content u n (stays u there) some all none

  pub changes_without_footer : content.text ≡ [] → AreBetween (MayChangeAt content) gap
  changes_without_footer empty = record {
    first = elim p.between.first [ inl limit ↦ inl limit | inr transition ↦ inr (inl transition) ];
    last = elim p.between.last [ inl limit ↦ inl limit | inr transition ↦ inr (inl transition) ];
    none = λ u after before change. elim change [
      | inl transition ↦ p.between.none u after before transition
      | inr footer ↦ spells_none content.version content.text footer.1.0 empty footer.1.1
    ];
  }

  -- from the last transition on the gap has no end
  no_later : length content.changes ≤ n → gap.last ≡ MAX_INSTANT
  no_later all = elim p.between.last [
    | inl limit ↦ limit
    | inr transition ↦
        let c = transition.1 in
        let within = transition.2 in
        let early : c.instant ≤ℤ t = subst (λ (d : Change). d.instant ≤ℤ t) transition.3 (p.point.not_after transition.0 (omega (arith, all, within)) c) in
        let at : c.instant ≡ gap.last +ℤ pos 1 = transition.4 in
        absurd (omega (arith, ints, early, at, p.here.to))
  ]

-- ---- from the last transition on, with a footer

module _ (content : Content) (t : ℤ) (n : ℕ) (gap : Instants) (p : IsPlaced content t n gap) (f : TzString) (span instants : Instants) (all : length content.changes ≤ n) (footer : IsFooter content f) (requested : Includes span t)
    (edges : AreBetween (HasEdgeAt f) span) (fits : FitsSigned w64 span.last)
    (first_is : instants.first ≡ int_max gap.first span.first) (last_is : instants.last ≡ span.last) where
  in_gap : (u : ℤ) → Includes instants u → Includes gap u
  in_gap u there =
      let no_end = no_later content t n gap p all in
      record { from = omega (arith, ints, clamps, first_is, there.from); to = omega (arith, ints, last_is, no_end, there.to) }

  in_span : (u : ℤ) → Includes instants u → Includes span u
  in_span u there = record { from = omega (arith, ints, clamps, first_is, there.from); to = omega (arith, ints, last_is, there.to) }

  pub requested_of_both : Includes instants t
  requested_of_both = record { from = omega (arith, ints, clamps, first_is, p.here.from, requested.from); to = omega (arith, ints, last_is, requested.to) }

  pub footer_throughout : (state : Shown) → MeansThroughout f span state → AnswersThroughout content instants (Some state)
  footer_throughout state means = λ u there. gives_footer content u n (stays content t n gap p u (in_gap u there)) f state all footer (means u (in_span u there))

  -- an edge of the footer counts from the last transition on
  counts : (u : ℤ) → Includes gap u → HasEdgeAt f u → MayChangeAt content u
  counts u there edge = inr (not_before_last content u n (stays content t n gap p u there) all, (f, footer.spells, edge))

  first_change : (instants.first ≡ MIN_INSTANT) ⊎ MayChangeAt content instants.first
  first_change =
      by_lt_z gap.first span.first
      (λ lt.
      let same : instants.first ≡ span.first = omega (arith, ints, clamps, first_is) in
      rw same (elim edges.first [
        | inl limit ↦ inl limit
        | inr edge ↦ inr (counts span.first (record { from = omega (arith, ints); to = omega (arith, ints, requested.from, p.here.to) }) edge)
      ]))
      (λ ge.
      let same : instants.first ≡ gap.first = omega (arith, ints, clamps, first_is) in
      rw same (elim p.between.first [ inl limit ↦ inl limit | inr transition ↦ inr (inl transition) ]))

  last_change : (instants.last ≡ MAX_INSTANT) ⊎ MayChangeAt content (instants.last +ℤ pos 1)
  last_change =
      let no_end = no_later content t n gap p all in
      rw last_is (by_lt_z span.last MAX_INSTANT
      (λ lt. elim edges.last [
        | inl limit ↦ inl limit
        | inr edge ↦ inr (counts (span.last +ℤ pos 1) (record { from = omega (arith, ints, p.here.from, requested.to); to = omega (arith, ints, no_end) }) edge)
      ])
      (λ ge. inl (omega (arith, ints))))

  pub changes_with_footer : AreBetween (MayChangeAt content) instants
  changes_with_footer = record {
    first = first_change;
    last = last_change;
    none = λ u after before change. elim change [
      | inl transition ↦ p.between.none u (omega (arith, ints, clamps, first_is)) (in_gap u (record { from = omega (arith, ints); to = before })).to transition
      | inr of_footer ↦ edges.none u (omega (arith, ints, clamps, first_is)) (omega (arith, ints, last_is))
          (subst (λ (g : TzString). HasEdgeAt g u) (spells_one content.version content.text of_footer.1.0 f of_footer.1.1 footer.spells) of_footer.1.2)
    ];
  }
