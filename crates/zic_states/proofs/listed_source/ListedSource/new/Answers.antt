use Rattle.zic_states.specs.code.Shared.{IsListing, IsTimedListing, AreListings, AreTimedListings}
use Rattle.zic_states.proofs.SharedLists.{none_listed}
use Rattle.zic_states.proofs.listed_source.ListedSource.new.Goals as goal
use Rattle.zic_states.proofs.listed_source.ListedSource.new.Goals.{in-Ok-listings_of, in-Err-listings_of, in-Ok-timed_of, in-Err-timed_of}

pub invariant_of-result : goal.invariant_of-result
invariant_of-result c =
    let rules = c.args.source.now.rules in
    let listings : AreListings rules c.match-listings_of.listings.items = elim c.match-listings_of.branch [
      | in-Ok-listings_of w ↦ rw w.listings-is w.in-Ok-listings_of.ensures
      | in-Err-listings_of w ↦ rw w.listings-is (none_listed IsListing rules w.new-listings.result.items w.new-listings.ensures.items)
    ] in
    let timed : AreTimedListings rules c.match-timed_of.timed.items = elim c.match-timed_of.branch [
      | in-Ok-timed_of w ↦ rw w.timed-is w.in-Ok-timed_of.ensures
      | in-Err-timed_of w ↦ rw w.timed-is (none_listed IsTimedListing rules w.new-timed.result.items w.new-timed.ensures.items)
    ] in
    (listings, timed)
