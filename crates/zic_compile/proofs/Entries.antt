-- The entries of the lines so far.
use Rattle.std.proofs.Common.{◌≡◌, ℕ, ◌+◌, ◌<◌, List, [], ◌∷◌, ◌++◌, length, Option, Some, inl, inr, refl, sym, ap, subst, ◌∙◌}
use Rattle.std.specs.Prelude.{IfSome, IsSomeAnd, slice_get}
use Rattle.std.specs.List.{AllZip}
use Rattle.std.proofs.lemmas.Option.{slice_get_within, get_or_from_slice_get}
use Rattle.zic_base.specs.Place.{IsBefore}
use Rattle.zic_base.specs.declared.fault.Place.{Place}
use Rattle.zic_base.proofs.Options.{some_of, if_at}
use Rattle.zic_lines.specs.declared.link.Link.{Link}
use Rattle.zic_source.specs.Links.{EndsAt}
use Rattle.zic_source.specs.Sound.{AreInOrder}
use Rattle.zic_source.specs.Source.{SourceLines, ZoneLines, zone_at}
use Rattle.zic_files.specs.declared.names.Entry.{Entry}
use Rattle.zic_compile.specs.code.Entries.{AreEntriesOf, IsEntryAt, IsEntryOfZone, IsEntryOfLink, IsZoneNext, IsLinkNext}
use Rattle.zic_compile.proofs.Merging.{IsMerged, none_merged, one_merged, turned, all_first}

and_at : {X : Type 0} (o : Option X) (P : X → Type 0) (x : X) → o ≡ Some x → P x → IsSomeAnd o P
and_at {X = X} o P x e p = subst (λ (q : Option X). IsSomeAnd q P) (sym e) p

abbrev pub zone_place : ZoneLines → Place
zone_place zone = zone.first.place

abbrev pub link_place : Link → Place
link_place link = link.place

-- the entries of the first zones and of the first links, merged
pub record AreEntriesSoFar (source : SourceLines) (zone link : ℕ) (entries : List Entry) : Type 0 where
  pub places : List Place
  pub merged : IsMerged zone_place link_place source.zones source.links zone link places
  pub each : AllZip (IsEntryAt source) places entries

pub no_entries : (source : SourceLines) → AreEntriesSoFar source 0 0 []
no_entries source = record { places = []; merged = none_merged zone_place link_place source.zones source.links; each = tt }

one_at_each : (source : SourceLines) (places : List Place) (entries : List Entry) (place : Place) (entry : Entry) → AllZip (IsEntryAt source) places entries → IsEntryAt source place entry
    → AllZip (IsEntryAt source) (places ++ place ∷ []) (entries ++ entry ∷ [])
one_at_each source [] [] place entry each is = (is, tt)
one_at_each source [] (e ∷ entries) place entry each is = absurd each
one_at_each source (p ∷ places) [] place entry each is = absurd each
one_at_each source (p ∷ places) (e ∷ entries) place entry each is = (each.0, one_at_each source places entries place entry each.1 is)

module _ (source : SourceLines) (zone link : ℕ) (entries : List Entry) (entry : Entry) (in_order : AreInOrder source) (so_far : AreEntriesSoFar source zone link entries) where
  -- one zone more
  pub zone_more : IsZoneNext source zone link → IsEntryOfZone source zone entry → AreEntriesSoFar source (zone + 1) link (entries ++ entry ∷ [])
  zone_more next is =
      let z = some_of (zone_at source zone) (λ zone. IfSome (slice_get source.links link) (λ l. IsBefore zone.first.place l.place)) next in
      let named = if_at (zone_at source zone) (λ lines. entry.name ≡ lines.name) z.0 is.named z.1 in
      let here : zone_at source entry.zone ≡ Some z.0 = ap (zone_at source) is.zone ∙ z.1 in
      record {
        places = so_far.places ++ z.0.first.place ∷ [];
        merged = one_merged zone_place link_place source.zones source.links zone link so_far.places z.0 in_order.zones so_far.merged z.1
            (λ l at. if_at (slice_get source.links link) (λ m. IsBefore z.0.first.place m.place) l z.2 at);
        each = one_at_each source so_far.places entries z.0.first.place entry so_far.each
            (inl (and_at (zone_at source entry.zone) (λ lines. (lines.first.place ≡ z.0.first.place) × (entry.name ≡ lines.name)) z.0 here (refl, named)));
      }

  -- one link more
  pub link_more : IsLinkNext source zone link → IsEntryOfLink source link entry → AreEntriesSoFar source zone (link + 1) (entries ++ entry ∷ [])
  link_more next is =
      let l = some_of (slice_get source.links link) (λ l. IfSome (zone_at source zone) (λ zone. IsBefore l.place zone.first.place)) next in
      let of_link = if_at (slice_get source.links link) (λ m. (entry.name ≡ m.name) × EndsAt source m entry.zone) l.0 is l.1 in
      let before = turned zone_place link_place source.zones source.links zone link so_far.places so_far.merged in
      let after = one_merged link_place zone_place source.links source.zones link zone so_far.places l.0 in_order.links before l.1
      (λ z at. if_at (zone_at source zone) (λ lines. IsBefore l.0.place lines.first.place) z l.2 at) in
      let places = so_far.places ++ l.0.place ∷ [] in
      record {
        places = places;
        merged = turned link_place zone_place source.links source.zones (link + 1) zone places after;
        each = one_at_each source so_far.places entries l.0.place entry so_far.each (inr (record {
          link = l.0;
          is_link = (link, slice_get_within source.links link l.0 l.1, get_or_from_slice_get source.links link l.0 l.0 l.1);
          at_place = refl;
          named = of_link.0;
          ends = of_link.1;
        }));
      }

pub zone_within : (source : SourceLines) (zone link : ℕ) → IsZoneNext source zone link → zone < length source.zones
zone_within source zone link next =
    let z = some_of (zone_at source zone) (λ z. IfSome (slice_get source.links link) (λ l. IsBefore z.first.place l.place)) next in
    slice_get_within source.zones zone z.0 z.1

pub link_within : (source : SourceLines) (zone link : ℕ) → IsLinkNext source zone link → link < length source.links
link_within source zone link next =
    let l = some_of (slice_get source.links link) (λ l. IfSome (zone_at source zone) (λ z. IsBefore l.place z.first.place)) next in
    slice_get_within source.links link l.0 l.1

-- the entries of all lines
pub all_entries : (source : SourceLines) (zone link : ℕ) (entries : List Entry) → AreEntriesSoFar source zone link entries → zone ≡ length source.zones → link ≡ length source.links → AreEntriesOf source entries
all_entries source zone link entries so_far all_zones every_link = record {
  places = so_far.places;
  rising = so_far.merged.rising;
  each = so_far.each;
  zones = all_first zone_place link_place source.zones source.links zone link so_far.places so_far.merged all_zones;
  links = all_first link_place zone_place source.links source.zones link zone so_far.places
      (turned zone_place link_place source.zones source.links zone link so_far.places so_far.merged) every_link;
}
