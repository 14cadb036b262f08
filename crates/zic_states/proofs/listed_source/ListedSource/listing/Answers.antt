use Rattle.std.proofs.Common.{◌≡◌, List, Option, Some, sym, ap, subst, ◌∙◌}
use Rattle.std.specs.Prelude.{slice_get, IfSome}
use Rattle.std.proofs.lemmas.Option.{slice_get-get_or}
use Rattle.zic_source.specs.Source.{SourceLines}
use Rattle.zic_states.specs.declared.occurrence.Listing.{Listing}
use Rattle.zic_states.specs.code.Shared.{IsListing}
use Rattle.zic_states.proofs.SharedLists.{listing_found, if_copied}
use Rattle.zic_states.proofs.listed_source.ListedSource.listing.Goals as goal

pub returns : goal.returns
returns c =
    let rules = c.self.inside.source.now.rules in
    let listings = c.self.inside.listings.items in
    let name = c.args.set.now in
    let numbers = c.set_rules.result.now in
    let first = c.in_ok-first.field-0.now in
    let entry = c.in_ok-get.field-0.now in
    let some = c.in_ok-first.ensures.item in
    let at = c.in_ok-get.ensures.lookup in
    let found : slice_get listings first ≡ Some entry =
    ap (λ (ls : List (Option Listing)). slice_get ls first) (sym c.deref.ensures.value) ∙ slice_get-get_or c.deref.result.now first entry at.3.0 ∙ ap (λ (o : Option Listing). Some o) (sym at.1)
    in
    subst (λ (s : SourceLines). IfSome c.as_ref.result (λ shared. IsListing (record { rules = s.rules; name = name }) shared.now)) c.self.view_is
    (if_copied (IsListing (record { rules = rules; name = name })) c.as_ref.result entry c.as_ref.ensures.value
    (λ listing is. listing_found IsListing rules name numbers first listings listing c.self.invariant.0 c.set_rules.ensures some.3.0 (some.3.1 0)
    (found ∙ ap (λ (o : Option Listing). Some o) is)))
