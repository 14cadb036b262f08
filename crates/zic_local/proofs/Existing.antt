-- A file tells something of each local time: from one second to the next.
use Rattle.std.proofs.Common.{◌≡◌, ℕ, suc, zero, ℤ, pos, ◌+ℤ◌, ◌-ℤ◌, ◌<ℤ◌, List, [], ◌∷◌, ◌++◌, Option, Some, None, refl, subst, arith}
use Rattle.std.specs.Option.{MatchOption}
use Rattle.std.proofs.lemmas.Int.{ints, by_lt_z}
use Rattle.zic_base.specs.State.{Shown}
use Rattle.zic_base.specs.declared.constants.TheConstants.{FARTHEST_FILE_OFFSET}
use Rattle.zic_posix.specs.Instants.{Includes}
use Rattle.zic_posix.specs.declared.span.Instants.{Instants}
use Rattle.zic_tzif.specs.Content.{Content}
use Rattle.zic_tzif.specs.Answer.{Answers, AnswersThroughout, IsUnspecified}
use Rattle.zic_local.specs.declared.local_time.Gap.{Gap}
use Rattle.zic_local.specs.declared.local_time.LocalInstants.{LocalInstants}
use Rattle.zic_local.specs.declared.local_time.LocalInstants.TheVariants as instants
use Rattle.zic_local.specs.LocalTime.{IsOffsetAt, IsInstantOf, AreInstantsOf, PassesOver, AnswersLocal, HaveOffsets}
use Rattle.zic_local.specs.code.Walk.{AnswersLocalUpTo, with_instant, with_gap, IsInSpan, IsPassedAt}
use Rattle.zic_local.proofs.Lists.{not_empty}
use Rattle.zic_local.proofs.Steps.{known_first, known_more, known_gap, known_all, next_instant, next_gap}

-- all instants of a local time, whatever is told of it
pub list_of : (content : Content) (local : ℤ) (given : LocalInstants) → AnswersLocal content local given → (list : List ℤ) × AreInstantsOf content local list
list_of content local (instants.Gap gap) tells = ([], tells.0)
list_of content local (instants.One t) tells = (t ∷ [], tells)
list_of content local (instants.Fold fold) tells = (fold.first ∷ (tells.between ++ fold.last ∷ []), tells.are)
list_of content local instants.Unspecified tells = ([], tells.0)

-- a span of one second
abbrev second : ℤ → Instants
second t = record { first = t; last = t }

module _ (local : ℤ) where
  abbrev IsInstantFound : Instants → Option Shown → Option ℤ → Type 0
  IsInstantFound span answer found = MatchOption found ((t : ℤ) → IsInSpan span answer local t → ⊥) (IsInSpan span answer local)

  abbrev HasInstantFound : ℤ → Option Shown → Type 0
  HasInstantFound t answer = (found : Option ℤ) × IsInstantFound (second t) answer found

  not_shown : (t : ℤ) (state : Shown) → ((t +ℤ state.offset ≡ local) → ⊥) → (u : ℤ) → IsInSpan (second t) (Some state) local u → ⊥
  not_shown t state not u is =
      let of = is.of in
      let at = is.is in
      let from = is.inside.from in
      let to = is.inside.to in
      not (omega (arith, ints, of, at, from, to))

  find_instant : (t : ℤ) (answer : Option Shown) → HasInstantFound t answer
  find_instant t None = (None, λ u is. is.of)
  find_instant t (Some state) =
      by_lt_z {P = HasInstantFound t (Some state)} (t +ℤ state.offset) local
      (λ below. (None, not_shown t state (λ is. omega (arith, ints, below, is))))
      (λ not_below. by_lt_z {P = HasInstantFound t (Some state)} local (t +ℤ state.offset)
      (λ above. (None, not_shown t state (λ is. omega (arith, ints, above, is))))
      (λ not_above. (
        Some t,
        record {
          offset = state.offset;
          of = refl;
          is = omega (arith, ints, not_below, not_above);
          inside = record { from = omega (arith, ints); to = omega (arith, ints) };
        },
      )))

  abbrev IsGapFound : Option Shown → Option Shown → ℤ → Option Gap → Type 0
  IsGapFound before after change found =
      MatchOption found ((gap : Gap) → gap.change ≡ change → IsPassedAt before after local gap → ⊥)
      (λ gap. (gap.change ≡ change) × IsPassedAt before after local gap)

  abbrev HasGapFound : Option Shown → Option Shown → ℤ → Type 0
  HasGapFound before after change = (found : Option Gap) × IsGapFound before after change found

  find_gap : (before after : Option Shown) (change : ℤ) → HasGapFound before after change
  find_gap None after change = (None, λ gap same is. is.offset_before)
  find_gap (Some before) None change = (None, λ gap same is. is.offset_after)
  find_gap (Some before) (Some after) change =
      by_lt_z {P = HasGapFound (Some before) (Some after) change} local (change +ℤ before.offset)
      (λ early. (None, λ gap same is. let of = is.offset_before in let come = is.to_come in omega (arith, ints, early, same, of, come)))
      (λ come. by_lt_z {P = HasGapFound (Some before) (Some after) change} local (change +ℤ after.offset)
      (λ passed. (
        Some (record { change = change; before = before.offset; after = after.offset }),
        (refl, record { offset_before = refl; offset_after = refl; to_come = come; passed = passed }),
      ))
      (λ not_passed. (None, λ gap same is. let of = is.offset_after in let passed = is.passed in omega (arith, ints, not_passed, same, of, passed))))

-- ---- second by second

module _ (content : Content) (local : ℤ) (near : HaveOffsets content) (answer_at : (t : ℤ) → (answer : Option Shown) × Answers content t answer) where
  second_throughout : (t : ℤ) → AnswersThroughout content (second t) (answer_at t).0
  second_throughout t = λ u there.
      let from = there.from in
      let to = there.to in
      let same : t ≡ u = omega (arith, ints, from, to) in
      subst (λ (z : ℤ). Answers content z (answer_at t).0) same (answer_at t).1

  abbrev IsKnownTo : ℤ → Type 0
  IsKnownTo end = (given : LocalInstants) × AnswersLocalUpTo content local end end given

  next_known : (end t : ℤ) → t ≡ end +ℤ pos 1 → IsKnownTo end → IsKnownTo t
  next_known end t is given =
      let gap = find_gap local (answer_at end).0 (answer_at t).0 t in
      let found = find_instant local t (answer_at t).0 in
      let here : Includes (second t) t = record { from = omega (arith, ints); to = omega (arith, ints) } in
      let gap_is = next_gap content local (second end) (second t) (answer_at end).0 (answer_at t).0 t (second_throughout end) (second_throughout t) is
      (omega (arith, ints)) here gap.0 gap.1 in
      let gaps = known_gap content local end end t given.0 gap.0 gap_is given.1 in
      let more = next_instant content local (second t) (answer_at t).0 end found.0 (second_throughout t) (omega (arith, ints, is))
      (λ u inside. let from = inside.inside.from in omega (arith, ints, from, is)) found.1 in (
        with_instant (with_gap given.0 gap.0) found.0,
        known_more content local end t t (with_gap given.0 gap.0) found.0 (omega (arith, ints, is)) more gaps,
      )

  known_to : (n : ℕ) → IsKnownTo (((local -ℤ pos FARTHEST_FILE_OFFSET) -ℤ pos 1) +ℤ pos n)
  known_to zero = (instants.Unspecified, known_first content local near _ _ (omega (arith, ints)) (omega (arith, ints)))
  known_to (suc n) = next_known _ _ (omega (arith, ints)) (known_to n)

  pub some_known : (given : LocalInstants) × AnswersLocal content local given
  some_known =
      let given = known_to 187_200 in
      (given.0, known_all content local near _ _ given.0 (omega (arith, ints)) (omega (arith, ints)) given.1)

  -- ---- a gap where no instant is

  module _ (known : (t : ℤ) → IsUnspecified content t → ⊥) (none : AreInstantsOf content local []) (no_gap : (gap : Gap) → PassesOver content local gap → ⊥) where
    abbrev HasOffsetAt : ℤ → Type 0
    HasOffsetAt t = (offset : ℤ) × IsOffsetAt content t offset

    offset_of : (t : ℤ) (answer : Option Shown) → Answers content t answer → HasOffsetAt t
    offset_of t (Some state) answers = (state.offset, record { state = state; answers = answers; is = refl })
    offset_of t None open' = absurd (known t open')

    not_at : (t offset : ℤ) → IsOffsetAt content t offset → (t +ℤ offset ≡ local) → ⊥
    not_at t offset at is = not_empty (IsInstantOf content local) none t (record { offset = offset; at = at; is = is })

    -- clocks don't come to the local time from one second to the next
    still_below : (t u offset before : ℤ) → u ≡ t +ℤ pos 1 → IsOffsetAt content t before → (t +ℤ before) <ℤ local → IsOffsetAt content u offset
        → (u +ℤ offset) <ℤ local
    still_below t u offset before next at below there =
        by_lt_z {P = (u +ℤ offset) <ℤ local} (u +ℤ offset) local (λ still. still)
        (λ not_below. by_lt_z {P = (u +ℤ offset) <ℤ local} local (u +ℤ offset)
        (λ passed.
        let same : t ≡ u -ℤ pos 1 = omega (arith, ints, next) in
        absurd (no_gap (record { change = u; before = before; after = offset }) (record {
          before = subst (λ (z : ℤ). IsOffsetAt content z before) same at;
          after = there;
          to_come = omega (arith, ints, next, below);
          passed = passed;
        })))
        (λ not_passed. absurd (not_at u offset there (omega (arith, ints, not_below, not_passed)))))

    below : (n : ℕ) (offset : ℤ) → IsOffsetAt content ((local -ℤ pos FARTHEST_FILE_OFFSET) +ℤ pos n) offset
        → (((local -ℤ pos FARTHEST_FILE_OFFSET) +ℤ pos n) +ℤ offset) <ℤ local
    below zero offset at =
        let within = near _ offset at in
        by_lt_z {P = (((local -ℤ pos FARTHEST_FILE_OFFSET) +ℤ pos 0) +ℤ offset) <ℤ local} (((local -ℤ pos FARTHEST_FILE_OFFSET) +ℤ pos 0) +ℤ offset) local (λ below. below)
        (λ not_below. absurd (not_at _ offset at (omega (arith, ints, within, not_below))))
    below (suc n) offset at =
        let t : ℤ = (local -ℤ pos FARTHEST_FILE_OFFSET) +ℤ pos n in
        let before = offset_of t (answer_at t).0 (answer_at t).1 in
        still_below t ((local -ℤ pos FARTHEST_FILE_OFFSET) +ℤ pos (suc n)) offset before.0 (omega (arith, ints)) before.1 (below n before.0 before.1) at

    pub passed_over : ⊥
    passed_over =
        let t : ℤ = (local -ℤ pos FARTHEST_FILE_OFFSET) +ℤ pos 187_200 in
        let at = offset_of t (answer_at t).0 (answer_at t).1 in
        let within = near t at.0 at.1 in
        let low = below 187_200 at.0 at.1 in
        omega (arith, ints, within, low)
