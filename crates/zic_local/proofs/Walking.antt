-- A walk over spans.
use Rattle.std.proofs.Common.{◌≡◌, ◌+◌, ◌<◌, ◌≤◌, inl, inr, ℤ, pos, ◌+ℤ◌, ◌-ℤ◌, ◌<ℤ◌, ◌≤ℤ◌, Option, Some, None, unsigned_abs, FitsSigned, w64, refl, sym, subst, arith}
use Rattle.std.specs.Int.{int_max}
use Rattle.std.specs.Option.{MatchOption}
use Rattle.std.proofs.lemmas.Int.{ints, clamps, by_lt_z}
use Rattle.zic_base.specs.State.{Shown}
use Rattle.zic_base.specs.declared.constants.TheConstants.{FARTHEST_FILE_OFFSET}
use Rattle.zic_posix.specs.Instants.{Includes, AreBetween}
use Rattle.zic_posix.specs.declared.span.Instants.{Instants}
use Rattle.zic_tzif.specs.Content.{Content}
use Rattle.zic_tzif.specs.Answer.{AnswersThroughout, MayChangeAt}
use Rattle.zic_local.specs.declared.local_time.Gap.{Gap}
use Rattle.zic_local.specs.declared.local_time.LocalInstants.{LocalInstants}
use Rattle.zic_local.specs.declared.local_time.LocalInstants.TheVariants as instants
use Rattle.zic_local.specs.LocalTime.{HaveOffsets}
use Rattle.zic_local.specs.code.Walk.{with_instant, with_gap, found_count, IsInSpan, IsPassedAt, IsWalked}
use Rattle.zic_local.proofs.Steps.{known_first, known_more, known_gap, next_instant, next_gap, no_gap_inside, near_in_span}

-- ---- how many instants

pub count_more : (given : LocalInstants) (found : Option ℤ) → found_count (with_instant given found) ≤ found_count given + 1
count_more (instants.Gap gap) None = omega arith
count_more (instants.One t) None = omega arith
count_more (instants.Fold fold) None = omega arith
count_more instants.Unspecified None = omega arith
count_more (instants.Gap gap) (Some t) = omega arith
count_more (instants.One first) (Some t) = omega arith
count_more (instants.Fold fold) (Some t) = omega arith
count_more instants.Unspecified (Some t) = omega arith

pub count_gap : (given : LocalInstants) (found : Option Gap) → found_count (with_gap given found) ≡ found_count given
count_gap (instants.Gap gap) None = refl
count_gap (instants.One t) None = refl
count_gap (instants.Fold fold) None = refl
count_gap instants.Unspecified None = refl
count_gap (instants.Gap gap) (Some other) = refl
count_gap (instants.One first) (Some other) = refl
count_gap (instants.Fold fold) (Some other) = refl
count_gap instants.Unspecified (Some other) = refl

module _ (content : Content) (local : ℤ) where
  -- ---- the first span

  pub walk_first : HaveOffsets content → (span : Instants) (answer : Option Shown) (found : Option ℤ) (start : ℤ)
      → AnswersThroughout content span answer → AreBetween (MayChangeAt content) span → Includes span start
      → start ≡ local -ℤ pos FARTHEST_FILE_OFFSET → FitsSigned w64 span.last
      → MatchOption found ((t : ℤ) → IsInSpan span answer local t → ⊥) (IsInSpan span answer local)
      → IsWalked content local span answer (with_instant instants.Unspecified found)
  walk_first near span answer found start throughout changes here is fits in_span =
      let end : ℤ = start -ℤ pos 1 in
      let from = here.from in
      let to = here.to in
      let none = known_first content local near end start (omega (arith, ints, is)) (omega (arith, ints, is)) in
      let no_gap = known_gap content local end start span.last instants.Unspecified None
      (λ gap over after within. no_gap_inside content local span answer throughout gap over (omega (arith, ints, from, after)) within) none in
      let next = next_instant content local span answer end found throughout (omega (arith, ints, from))
      (λ t inside. let low = near_in_span content local near span answer throughout t inside in omega (arith, ints, low, is)) in_span in
      record {
        tells = known_more content local end span.last span.last instants.Unspecified found (omega (arith, ints, to)) next no_gap;
        answers = throughout;
        changes = changes;
        some = omega (arith, ints, from, to);
        from = omega (arith, ints, to, is);
        fits = fits;
        counted = let count = count_more instants.Unspecified found in omega (arith, ints, count, to, is);
      }

  -- ---- one span more

  module _ (span next : Instants) (answer next_answer : Option Shown) (given : LocalInstants) (change : ℤ)
      (walked : IsWalked content local span answer given) (next_throughout : AnswersThroughout content next next_answer)
      (next_changes : AreBetween (MayChangeAt content) next) (here : Includes next change) (is : change ≡ span.last +ℤ pos 1)
      (fits : FitsSigned w64 next.last) where
    -- the next span begins at the change
    begins : change ≤ℤ next.first
    begins =
        by_lt_z next.first change
        (λ before. elim walked.changes.last [
          | inl limit ↦ let to = here.to in absurd (omega (arith, ints, limit, is, to, fits))
          | inr at ↦ absurd (next_changes.none change before here.to (subst (λ (t : ℤ). MayChangeAt content t) (sym is) at))
        ])
        (λ from. from)

    pub walk_more : (gap : Option Gap) (found : Option ℤ)
        → MatchOption gap ((gap : Gap) → gap.change ≡ change → IsPassedAt answer next_answer local gap → ⊥)
        (λ gap. (gap.change ≡ change) × IsPassedAt answer next_answer local gap)
        → MatchOption found ((t : ℤ) → IsInSpan next next_answer local t → ⊥) (IsInSpan next next_answer local)
        → IsWalked content local next next_answer (with_instant (with_gap given gap) found)
    walk_more gap found passed in_span =
        let from = here.from in
        let to = here.to in
        let with = with_gap given gap in
        let next_is = next_gap content local span next answer next_answer change walked.answers next_throughout is walked.some here gap passed in
        let gaps = known_gap content local span.last span.last next.last given gap next_is walked.tells in
        let more = next_instant content local next next_answer span.last found next_throughout (omega (arith, ints, from, is))
        (λ t inside. let after = inside.inside.from in let low = begins in omega (arith, ints, after, low, is)) in_span in
        let count = count_more with found in
        let same = count_gap given gap in
        let counted = walked.counted in
        let low = walked.from in
        record {
          tells = known_more content local span.last next.last next.last with found (omega (arith, ints, to, is)) more gaps;
          answers = next_throughout;
          changes = next_changes;
          some = omega (arith, ints, from, to);
          from = omega (arith, ints, to, is, low);
          fits = fits;
          counted = omega (arith, ints, count, same, counted, to, is);
        }

-- the next span ends later
pub smaller : (last old new : ℤ) → old <ℤ last → old <ℤ new → unsigned_abs (int_max (pos 0) (last -ℤ new)) < unsigned_abs (int_max (pos 0) (last -ℤ old))
smaller last old new before later = omega (arith, ints, clamps, before, later)
