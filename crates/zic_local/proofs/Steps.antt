-- What is told of a local time, from one span to the next.
use Rattle.std.proofs.Common.{◌≡◌, inl, inr, ℤ, pos, ◌+ℤ◌, ◌-ℤ◌, ◌<ℤ◌, ◌≤ℤ◌, List, [], ◌∷◌, ◌++◌, Option, Some, None, refl, sym, subst, ◌∙◌, length-append, arith}
use Rattle.std.specs.Option.{MatchOption}
use Rattle.std.proofs.lemmas.Int.{ints, by_lt_z}
use Rattle.zic_base.specs.State.{Shown}
use Rattle.zic_base.specs.declared.constants.TheConstants.{FARTHEST_FILE_OFFSET}
use Rattle.zic_posix.specs.Instants.{Includes}
use Rattle.zic_posix.specs.declared.span.Instants.{Instants}
use Rattle.zic_tzif.specs.Content.{Content}
use Rattle.zic_tzif.specs.Answer.{AnswersThroughout}
use Rattle.zic_tzif.proofs.AnswerLemmas.{one_answer}
use Rattle.zic_local.specs.declared.local_time.Gap.{Gap}
use Rattle.zic_local.specs.declared.local_time.LocalInstants.{LocalInstants}
use Rattle.zic_local.specs.declared.local_time.LocalInstants.TheVariants as instants
use Rattle.zic_local.specs.LocalTime.{IsOffsetAt, IsInstantOf, AreInstantsOf, PassesOver, AnswersLocal, HaveOffsets}
use Rattle.zic_local.specs.code.Walk.{IsInstantUpTo, AreUpTo, AnswersLocalUpTo, with_instant, with_gap, HasOffset, HasNearOffset, IsInSpan, IsPassedAt}
use Rattle.zic_local.proofs.Lists.{just_none, just_same, just_more}

module _ (content : Content) (local : ℤ) where
  -- ---- instants

  -- no instant more
  no_more : (end later : ℤ) (list : List ℤ) → end ≤ℤ later → ((t : ℤ) → end <ℤ t → t ≤ℤ later → IsInstantOf content local t → ⊥)
      → AreUpTo content local end list → AreUpTo content local later list
  no_more end later list order none are =
      just_same (IsInstantUpTo content local end) (IsInstantUpTo content local later) list
      (λ t has. record { is = has.is; within = let within = has.within in omega (arith, ints, within, order) })
      (λ t has. by_lt_z end t (λ after. absurd (none t after has.within has.is)) (λ not_after. record { is = has.is; within = not_after }))
      are

  -- one instant more
  one_more : (end later t : ℤ) (list : List ℤ) → end ≤ℤ later → end <ℤ t → t ≤ℤ later → IsInstantOf content local t
      → ((u : ℤ) → end <ℤ u → u ≤ℤ later → IsInstantOf content local u → t ≡ u)
      → AreUpTo content local end list → AreUpTo content local later (list ++ t ∷ [])
  one_more end later t list order after within is only are =
      just_more (IsInstantUpTo content local end) (IsInstantUpTo content local later) list t are
      (λ u has. let before = has.within in omega (arith, ints, before, after))
      (record { is = is; within = within })
      (λ u has. record { is = has.is; within = let before = has.within in omega (arith, ints, before, order) })
      (λ u has. by_lt_z end u (λ later. inr (only u later has.within has.is)) (λ not_after. inl (record { is = has.is; within = not_after })))

  -- the instant after one and up to another, if there is one
  abbrev pub IsNextInstant : ℤ → ℤ → Option ℤ → Type 0
  IsNextInstant end later None = (t : ℤ) → end <ℤ t → t ≤ℤ later → IsInstantOf content local t → ⊥
  IsNextInstant end later (Some t) =
      (end <ℤ t) × (t ≤ℤ later) × IsInstantOf content local t × ((u : ℤ) → end <ℤ u → u ≤ℤ later → IsInstantOf content local u → t ≡ u)

  pub known_more : (end later last : ℤ) (given : LocalInstants) (found : Option ℤ) → end ≤ℤ later → IsNextInstant end later found
      → AnswersLocalUpTo content local end last given → AnswersLocalUpTo content local later last (with_instant given found)
  known_more end later last (instants.Gap gap) None order none are = (no_more end later [] order none are.0, are.1)
  known_more end later last (instants.One first) None order none are = no_more end later (first ∷ []) order none are
  known_more end later last (instants.Fold fold) None order none are = record {
    between = are.between;
    are = no_more end later (fold.first ∷ (are.between ++ fold.last ∷ [])) order none are.are;
    count = are.count;
  }
  known_more end later last instants.Unspecified None order none are = (no_more end later [] order none are.0, are.1)
  known_more end later last (instants.Gap gap) (Some t) order next are = one_more end later t [] order next.0 next.1 next.2 next.3 are.0
  known_more end later last (instants.One first) (Some t) order next are = record {
    between = [];
    are = one_more end later t (first ∷ []) order next.0 next.1 next.2 next.3 are;
    count = refl;
  }
  known_more end later last (instants.Fold fold) (Some t) order next are = record {
    between = are.between ++ fold.last ∷ [];
    are = one_more end later t (fold.first ∷ (are.between ++ fold.last ∷ [])) order next.0 next.1 next.2 next.3 are.are;
    count = let count = are.count in omega (arith, count, length-append are.between (fold.last ∷ []));
  }
  known_more end later last instants.Unspecified (Some t) order next are = one_more end later t [] order next.0 next.1 next.2 next.3 are.0

  -- ---- gaps

  -- the first gap after an instant and up to another, if there is one
  abbrev pub IsNextGap : ℤ → ℤ → Option Gap → Type 0
  IsNextGap last later None = (gap : Gap) → PassesOver content local gap → last <ℤ gap.change → gap.change ≤ℤ later → ⊥
  IsNextGap last later (Some gap) =
      PassesOver content local gap × ((other : Gap) → PassesOver content local other → last <ℤ other.change → gap.change ≤ℤ other.change)

  pub known_gap : (end last later : ℤ) (given : LocalInstants) (found : Option Gap) → IsNextGap last later found
      → AnswersLocalUpTo content local end last given → AnswersLocalUpTo content local end later (with_gap given found)
  known_gap end last later (instants.Gap gap) None next are = are
  known_gap end last later (instants.One t) None next are = are
  known_gap end last later (instants.Fold fold) None next are = record { between = are.between; are = are.are; count = are.count }
  known_gap end last later instants.Unspecified None next are =
      (are.0, λ gap over within. by_lt_z last gap.change (λ after. next gap over after within) (λ not_after. are.1 gap over not_after))
  known_gap end last later (instants.Gap gap) (Some new) next are = are
  known_gap end last later (instants.One t) (Some new) next are = are
  known_gap end last later (instants.Fold fold) (Some new) next are = record { between = are.between; are = are.are; count = are.count }
  known_gap end last later instants.Unspecified (Some new) next are = (
    are.0,
    record {
      over = next.0;
      first = λ other over. by_lt_z last other.change (λ after. next.1 other over after) (λ not_after. absurd (are.1 other over not_after));
    },
  )

  -- ---- the spans that may matter

  module _ (near : HaveOffsets content) where
    near_instant : (t : ℤ) → IsInstantOf content local t → ((local -ℤ pos FARTHEST_FILE_OFFSET) ≤ℤ t) × (t ≤ℤ (local +ℤ pos FARTHEST_FILE_OFFSET))
    near_instant t is =
        let within = near t is.offset is.at in
        let e = is.is in
        (omega (arith, ints, within, e), omega (arith, ints, within, e))

    pub near_gap : (gap : Gap) → PassesOver content local gap
        → ((local -ℤ pos FARTHEST_FILE_OFFSET) <ℤ gap.change) × (gap.change ≤ℤ (local +ℤ pos FARTHEST_FILE_OFFSET))
    near_gap gap over =
        let before = near (gap.change -ℤ pos 1) gap.before over.before in
        let after = near gap.change gap.after over.after in
        let to_come = over.to_come in
        let passed = over.passed in
        (omega (arith, ints, after, passed), omega (arith, ints, before, to_come))

    -- nothing is told before the window
    pub known_first : (end last : ℤ) → end <ℤ (local -ℤ pos FARTHEST_FILE_OFFSET) → last ≤ℤ (local -ℤ pos FARTHEST_FILE_OFFSET)
        → AnswersLocalUpTo content local end last instants.Unspecified
    known_first end last below from = (
      just_none (IsInstantUpTo content local end)
          (λ t has. let low = (near_instant t has.is).0 in let within = has.within in omega (arith, ints, below, low, within)),
      λ gap over within. let low = (near_gap gap over).0 in omega (arith, ints, from, low, within),
    )

    pub all_instants : (end : ℤ) (list : List ℤ) → (local +ℤ pos FARTHEST_FILE_OFFSET) ≤ℤ end → AreUpTo content local end list
        → AreInstantsOf content local list
    all_instants end list above are =
        just_same (IsInstantUpTo content local end) (IsInstantOf content local) list (λ t has. has.is)
        (λ t is. record { is = is; within = let high = (near_instant t is).1 in omega (arith, ints, above, high) }) are

    -- all is told at the end of the window
    pub known_all : (end last : ℤ) (given : LocalInstants) → (local +ℤ pos FARTHEST_FILE_OFFSET) ≤ℤ end
        → (local +ℤ pos FARTHEST_FILE_OFFSET) ≤ℤ last → AnswersLocalUpTo content local end last given → AnswersLocal content local given
    known_all end last (instants.Gap gap) above to are = (all_instants end [] above are.0, are.1)
    known_all end last (instants.One t) above to are = all_instants end (t ∷ []) above are
    known_all end last (instants.Fold fold) above to are = record {
      between = are.between;
      are = all_instants end (fold.first ∷ (are.between ++ fold.last ∷ [])) above are.are;
      count = are.count;
    }
    known_all end last instants.Unspecified above to are =
        (all_instants end [] above are.0, λ gap over. are.1 gap over (let high = (near_gap gap over).1 in omega (arith, ints, to, high)))

  -- ---- one span

  -- an answer has one offset
  one_offset : (answer : Option Shown) (a b : ℤ) → HasOffset answer a → HasOffset answer b → a ≡ b
  one_offset (Some state) a b is other = is ∙ sym other
  one_offset None a b is other = absurd is

  pub offset_is : (span : Instants) (answer : Option Shown) → AnswersThroughout content span answer → (t offset : ℤ) → Includes span t
      → IsOffsetAt content t offset → HasOffset answer offset
  offset_is span answer throughout t offset there at =
      subst (λ (a : Option Shown). HasOffset a offset) (one_answer content t (Some at.state) answer at.answers (throughout t there)) at.is

  offset_at : (span : Instants) (answer : Option Shown) → AnswersThroughout content span answer → (t offset : ℤ) → Includes span t
      → HasOffset answer offset → IsOffsetAt content t offset
  offset_at span (Some state) throughout t offset there of = record { state = state; answers = throughout t there; is = of }
  offset_at span None throughout t offset there of = absurd of

  -- the offset of an answer is near
  pub near_answer : HaveOffsets content → (span : Instants) (answer : Option Shown) → AnswersThroughout content span answer → (t : ℤ)
      → Includes span t → HasNearOffset answer
  near_answer near span answer throughout t there = λ offset of. near t offset (offset_at span answer throughout t offset there of)

  -- the instant of a span is near
  pub near_in_span : HaveOffsets content → (span : Instants) (answer : Option Shown) → AnswersThroughout content span answer → (t : ℤ)
      → IsInSpan span answer local t → (local -ℤ pos FARTHEST_FILE_OFFSET) ≤ℤ t
  near_in_span near span answer throughout t is =
      let at = offset_at span answer throughout t is.offset is.inside is.of in
      (near_instant near t (record { offset = is.offset; at = at; is = is.is })).0

  -- the instant of a span
  pub next_instant : (span : Instants) (answer : Option Shown) (end : ℤ) (found : Option ℤ) → AnswersThroughout content span answer
      → span.first ≤ℤ (end +ℤ pos 1) → ((t : ℤ) → IsInSpan span answer local t → end <ℤ t)
      → MatchOption found ((t : ℤ) → IsInSpan span answer local t → ⊥) (IsInSpan span answer local) → IsNextInstant end span.last found
  next_instant span answer end None throughout from later none = λ t after within is. none t (
      let there : Includes span t = record { from = omega (arith, ints, from, after); to = within } in
      record { offset = is.offset; of = offset_is span answer throughout t is.offset there is.at; is = is.is; inside = there })
  next_instant span answer end (Some t) throughout from later found = (
    later t found,
    found.inside.to,
    record { offset = found.offset; at = offset_at span answer throughout t found.offset found.inside found.of; is = found.is },
    λ u after within is.
        let there : Includes span u = record { from = omega (arith, ints, from, after); to = within } in
        let same = one_offset answer found.offset is.offset found.of (offset_is span answer throughout u is.offset there is.at) in
        let here = found.is in
        let other = is.is in
        omega (arith, ints, same, here, other),
  )

  -- no change is within a span
  pub no_gap_inside : (span : Instants) (answer : Option Shown) → AnswersThroughout content span answer → (gap : Gap)
      → PassesOver content local gap → span.first <ℤ gap.change → gap.change ≤ℤ span.last → ⊥
  no_gap_inside span answer throughout gap over after within =
      let before : Includes span (gap.change -ℤ pos 1) = record { from = omega (arith, ints, after); to = omega (arith, ints, within) } in
      let here : Includes span gap.change = record { from = omega (arith, ints, after); to = within } in
      let same = one_offset answer gap.before gap.after
      (offset_is span answer throughout (gap.change -ℤ pos 1) gap.before before over.before)
      (offset_is span answer throughout gap.change gap.after here over.after) in
      let to_come = over.to_come in
      let passed = over.passed in
      omega (arith, ints, same, to_come, passed)

  -- the gap between two spans
  module _ (span next : Instants) (answer next_answer : Option Shown) (change : ℤ) (throughout : AnswersThroughout content span answer)
      (next_throughout : AnswersThroughout content next next_answer) (is : change ≡ span.last +ℤ pos 1) (some : span.first ≤ℤ span.last)
      (here : Includes next change) where
    before_change : (t : ℤ) → t ≡ change → Includes span (t -ℤ pos 1)
    before_change t same = record { from = omega (arith, ints, same, is, some); to = omega (arith, ints, same, is) }

    at_change : (t : ℤ) → t ≡ change → Includes next t
    at_change t same = subst (λ (z : ℤ). Includes next z) (sym same) here

    pub next_gap : (found : Option Gap)
        → MatchOption found ((gap : Gap) → gap.change ≡ change → IsPassedAt answer next_answer local gap → ⊥)
        (λ gap. (gap.change ≡ change) × IsPassedAt answer next_answer local gap)
        → IsNextGap span.last next.last found
    next_gap None none = λ gap over after within.
        by_lt_z change gap.change
        (λ later. no_gap_inside next next_answer next_throughout gap over (let from = here.from in omega (arith, ints, from, later)) within)
        (λ not_later.
        let same : gap.change ≡ change = omega (arith, ints, not_later, after, is) in
        none gap same (record {
          offset_before = offset_is span answer throughout (gap.change -ℤ pos 1) gap.before (before_change gap.change same) over.before;
          offset_after = offset_is next next_answer next_throughout gap.change gap.after (at_change gap.change same) over.after;
          to_come = over.to_come;
          passed = over.passed;
        }))
    next_gap (Some gap) found = (
      record {
        before = offset_at span answer throughout (gap.change -ℤ pos 1) gap.before (before_change gap.change found.0) found.1.offset_before;
        after = offset_at next next_answer next_throughout gap.change gap.after (at_change gap.change found.0) found.1.offset_after;
        to_come = found.1.to_come;
        passed = found.1.passed;
      },
      λ other over after. let same = found.0 in omega (arith, ints, same, is, after),
    )
