-- Where a search ends.
use Rattle.std.proofs.Common.{◌≡◌, ℤ, pos, ◌+ℤ◌, ◌<ℤ◌, ◌≤ℤ◌, [], Option, Some, None, MatchOption, arith}
use Rattle.std.specs.Option.{unwrap_or}
use Rattle.std.proofs.lemmas.Int.{ints, by_lt_z}
use Rattle.zic_base.specs.State.{Shown}
use Rattle.zic_base.specs.declared.constants.TheConstants.{FARTHEST_FILE_OFFSET}
use Rattle.zic_tzif.specs.Answer.{IsBeforeLast, IsUnspecified}
use Rattle.zic_tzif.specs.Content.{Content}
use Rattle.zic_tzif.specs.LastTransition.{IsLastTransitionAt}
use Rattle.zic_tzif.proofs.AnswerLemmas.{one_answer}
use Rattle.zic_local.specs.LocalTime.{HaveOffsets, IsOffsetAt}
use Rattle.zic_local.specs.Due.{local_time_on}
use Rattle.zic_local.specs.code.Search.{EndsAt}
use Rattle.zic_local.proofs.Meant.{meant_known, meant_near}

module _ (content : Content) (near : HaveOffsets content) (until : ℤ) where
  pub ends_at_bound : EndsAt content until until
  ends_at_bound schedule day t due to =
      let within = meant_near content (local_time_on day schedule.time) near schedule.policy t due.meant in
      omega (arith, ints, within, to)

  -- ---- where local time is left open

  module _ (opens : IsUnspecified content until) (end : ℤ) (last : IsLastTransitionAt content end) where
    open_from : (u : ℤ) → end ≤ℤ u → IsUnspecified content u
    open_from u from = record {
      some = opens.some;
      after = λ before. last.last (before.0, before.1, before.2, before.3, let less = before.4 in omega (arith, ints, from, less));
      no_footer = opens.no_footer;
    }

    not_known : (state : Shown) → Some state ≡ None → ⊥
    not_known state same = cc

    known_before : (u offset : ℤ) → IsOffsetAt content u offset → u <ℤ end
    known_before u offset at =
        by_lt_z u end (λ less. less)
        (λ from. absurd (not_known at.state (one_answer content u (Some at.state) None at.answers (open_from u from))))

    ends_at_last : EndsAt content until end
    ends_at_last schedule day t due to =
        meant_known content (local_time_on day schedule.time) near end t known_before schedule.policy due.meant

  pub ends_open : IsUnspecified content until → (last : Option ℤ) → MatchOption last (content.changes ≡ []) (IsLastTransitionAt content)
      → EndsAt content until (unwrap_or last until)
  ends_open opens None none = absurd (opens.some none)
  ends_open opens (Some end) last = ends_at_last opens end last
