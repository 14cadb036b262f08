use Rattle.std.proofs.Common.{◌≡◌, ◌+◌, ℕ, List, length, Option, sym, subst, ap, ◌∙◌}
use Rattle.std.specs.Prelude.{IfSome}
use Rattle.std.proofs.lemmas.List.{length_push}
use Rattle.zic_states.specs.declared.occurrence.Listing.{Listing}
use Rattle.zic_states.specs.code.Shared.{IsListing, IsListingOf, AreListings}
use Rattle.zic_states.proofs.SharedLists.{more_listed}
use Rattle.zic_states.proofs.listed_source.listings_of.Goals as goal

pub loop-number-preserved : goal.loop-number-preserved
loop-number-preserved c =
    let rules = c.args.source.now.rules in
    let old = c.loop-number.listings.items in
    let next = c.listing_of.result in
    let known = c.loop-number.invariant in
    let items = c.in_ok-push.ensures.items in
    record {
      count = ap (λ (ls : List (Option Listing)). length ls) items ∙ length_push old next ∙ ap (λ (n : ℕ). n + 1) known.count;
      listed = subst (λ (ls : List (Option Listing)). AreListings rules ls) (sym items)
          (more_listed IsListing rules old next known.listed (subst (λ (n : ℕ). IfSome next (IsListingOf rules n)) (sym known.count) c.listing_of.ensures));
    }
