use Rattle.std.proofs.Common.{◌≡◌, ◌+◌, ℕ, List, length, Option, sym, subst, ap, ◌∙◌}
use Rattle.std.specs.Prelude.{IfSome}
use Rattle.std.proofs.lemmas.List.{length_push}
use Rattle.zic_states.specs.declared.occurrence.TimedListing.{TimedListing}
use Rattle.zic_states.specs.code.Shared.{IsTimedListing, IsTimedListingOf, AreTimedListings}
use Rattle.zic_states.proofs.SharedLists.{more_listed}
use Rattle.zic_states.proofs.listed_source.timed_of.Goals as goal

pub loop-number-preserved : goal.loop-number-preserved
loop-number-preserved c =
    let rules = c.args.source.now.rules in
    let old = c.loop-number.timed.items in
    let next = c.timed_listing_of.result in
    let known = c.loop-number.invariant in
    let items = c.in_ok-push.ensures.items in
    record {
      count = ap (λ (ls : List (Option TimedListing)). length ls) items ∙ length_push old next ∙ ap (λ (n : ℕ). n + 1) known.count;
      listed = subst (λ (ls : List (Option TimedListing)). AreTimedListings rules ls) (sym items)
          (more_listed IsTimedListing rules old next known.listed (subst (λ (n : ℕ). IfSome next (IsTimedListingOf rules n)) (sym known.count) c.timed_listing_of.ensures));
    }
