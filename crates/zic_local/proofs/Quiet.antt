-- Where no change passes over a local time.
use Rattle.std.proofs.Common.{◌≡◌, true, false, ℤ, pos, ◌+ℤ◌, ◌-ℤ◌, ◌<ℤ◌, ◌≤ℤ◌, Option, Some, None, arith, FitsSigned, w64}
use Rattle.std.specs.Option.{MatchOption, is_some}
use Rattle.std.proofs.lemmas.Int.{ints, by_lt_z}
use Rattle.zic_base.specs.State.{Shown}
use Rattle.zic_base.specs.declared.constants.TheConstants.{FARTHEST_FILE_OFFSET}
use Rattle.zic_posix.specs.Instants.{Includes}
use Rattle.zic_posix.specs.declared.span.Instants.{Instants}
use Rattle.zic_tzif.specs.Content.{Content}
use Rattle.zic_tzif.specs.Answer.{AnswersThroughout}
use Rattle.zic_local.specs.declared.local_index.Passed.{Passed}
use Rattle.zic_local.specs.declared.local_time.Gap.{Gap}
use Rattle.zic_local.specs.Index.{IsPassed}
use Rattle.zic_local.specs.LocalTime.{HaveOffsets, IsGapOf, PassesOver}
use Rattle.zic_local.specs.code.Indexing.{IsQuiet}
use Rattle.zic_local.specs.code.Walk.{IsPassedAt}
use Rattle.zic_local.proofs.Steps.{near_gap, next_gap, no_gap_inside}

module _ (content : Content) (local : ℤ) where
  -- no change passes over the local time up to the instant
  abbrev pub IsQuietUntil : ℤ → Type 0
  IsQuietUntil t = (gap : Gap) → PassesOver content local gap → gap.change ≤ℤ t → ⊥

  pub quiet_far : HaveOffsets content → (t : ℤ) → t ≤ℤ (local -ℤ pos FARTHEST_FILE_OFFSET) → IsQuietUntil t
  quiet_far near t far gap over within = let low = (near_gap content local near gap over).0 in omega (arith, ints, far, low, within)

  pub quiet_passed : (passed : Passed) → IsPassed content passed → passed.most <ℤ local → IsQuietUntil passed.until
  quiet_passed passed is before gap over within =
      let shows = is gap.change gap.after within over.after in
      let passes = over.passed in
      omega (arith, ints, shows, passes, before)

  pub quiet_later : (a b t : ℤ) → IsQuietUntil a → IsQuietUntil b → (b <ℤ t → t ≤ℤ a) → IsQuietUntil t
  quiet_later a b t at_a at_b most gap over within =
      by_lt_z b t (λ above. let low = most above in at_a gap over (omega (arith, ints, low, within))) (λ not_above. at_b gap over (omega (arith, ints, not_above, within)))

  pub quiet_first : (span : Instants) (answer : Option Shown) (start : ℤ) → AnswersThroughout content span answer → Includes span start → FitsSigned w64 span.last
      → IsQuietUntil start → IsQuiet content local span answer
  quiet_first span answer start throughout here fits none =
      let from = here.from in
      let to = here.to in
      record {
        answers = throughout;
        some = omega (arith, ints, from, to);
        fits = fits;
        none = λ gap over within. by_lt_z start gap.change
            (λ after. no_gap_inside content local span answer throughout gap over (omega (arith, ints, from, after)) within)
            (λ not_after. none gap over not_after);
      }

  module _ (span next : Instants) (answer next_answer : Option Shown) (change : ℤ) (quiet : IsQuiet content local span answer)
      (next_throughout : AnswersThroughout content next next_answer) (here : Includes next change) (is : change ≡ span.last +ℤ pos 1) where
    abbrev IsFoundAt : Option Gap → Type 0
    IsFoundAt found = MatchOption found ((gap : Gap) → gap.change ≡ change → IsPassedAt answer next_answer local gap → ⊥)
        (λ gap. (gap.change ≡ change) × IsPassedAt answer next_answer local gap)

    quiet_more : FitsSigned w64 next.last → IsFoundAt None → IsQuiet content local next next_answer
    quiet_more fits none =
        let from = here.from in
        let to = here.to in
        let next_is = next_gap content local span next answer next_answer change quiet.answers next_throughout is quiet.some here None none in
        record {
          answers = next_throughout;
          some = omega (arith, ints, from, to);
          fits = fits;
          none = λ gap over within. by_lt_z span.last gap.change (λ after. next_is gap over after within) (λ not_after. quiet.none gap over not_after);
        }

    quiet_gap : (gap : Gap) → IsFoundAt (Some gap) → IsGapOf content local gap
    quiet_gap gap found =
        let next_is = next_gap content local span next answer next_answer change quiet.answers next_throughout is quiet.some here (Some gap) found in
        record {
          over = next_is.0;
          first = λ other over. by_lt_z span.last other.change (λ after. next_is.1 other over after) (λ not_after. absurd (quiet.none other over not_after));
        }

    -- a gap that was found is the answer
    pub quiet_found : (found : Option Gap) → IsFoundAt found → is_some found ≡ true → MatchOption found ((gap : Gap) → PassesOver content local gap → ⊥) (IsGapOf content local)
    quiet_found None none some = absurd (cc some)
    quiet_found (Some gap) is some = quiet_gap gap is

    -- else the walk goes on
    pub quiet_on : FitsSigned w64 next.last → (found : Option Gap) → IsFoundAt found → is_some found ≡ false → IsQuiet content local next next_answer
    quiet_on fits None none is_none = quiet_more fits none
    quiet_on fits (Some gap) found is_none = absurd (cc is_none)

  -- all changes that may pass over the local time were seen
  pub quiet_all : HaveOffsets content → (span : Instants) (answer : Option Shown) → IsQuiet content local span answer → (local +ℤ pos FARTHEST_FILE_OFFSET) ≤ℤ span.last
      → (gap : Gap) → PassesOver content local gap → ⊥
  quiet_all near span answer quiet above gap over = quiet.none gap over (let high = (near_gap content local near gap over).1 in omega (arith, ints, above, high))
