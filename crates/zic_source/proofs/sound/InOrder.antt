-- The lines of a source stand in the order of the texts.
use Rattle.std.proofs.Common.{◌≢◌, ℕ, List, [], ◌∷◌, map, sym, subst}
use Rattle.std.specs.Prelude.{Contains, All, flat_map}
use Rattle.zic_base.specs.declared.fault.Place.{Place}
use Rattle.zic_lines.specs.declared.link.Link.{Link}
use Rattle.zic_lines.specs.declared.entry.Entry.{Entry}
use Rattle.zic_lines.specs.declared.entry.Entry.TheVariants as entries
use Rattle.zic_lines.specs.Entry.{links_in, zone_entries_in}
use Rattle.zic_source.specs.Event.{events_of}
use Rattle.zic_source.specs.Source.{SourceLines, ZoneLines, lines_of_zone, zone_lines_of, entries_of_zone}
use Rattle.zic_source.specs.Sound.{AreInOrder}
use Rattle.zic_base.proofs.Elements.{all_if_each, first_contained, into_flat_map}
use Rattle.zic_source.proofs.reading.Places.{Rising, rising_from, last_rising, each_before, place_of, before_all, said_rises, no_link}
use Rattle.zic_source.proofs.reading.Read.{entries_of, Read}

abbrev zone_place : ZoneLines → Place
zone_place zone = zone.first.place

abbrev link_place : Link → Place
link_place link = link.place

links_rise : (place : Place) (said : List Entry) → Rising place_of place said → Rising link_place place (flat_map links_in said)
links_rise place [] rising = tt
links_rise place (entries.Link link ∷ said) rising = (rising.0, links_rise link.place said rising.1)
links_rise place (entry ∷ said) rising = rising_from link_place place (place_of entry) (flat_map links_in said) rising.0 (links_rise (place_of entry) said rising.1)

zone_entries_rise : (place : Place) (said : List Entry) → Rising place_of place said → Rising place_of place (flat_map zone_entries_in said)
zone_entries_rise place [] rising = tt
zone_entries_rise place (entries.Zone name line ∷ said) rising = (rising.0, zone_entries_rise line.place said rising.1)
zone_entries_rise place (entries.Continuation line ∷ said) rising = (rising.0, zone_entries_rise line.place said rising.1)
zone_entries_rise place (entry ∷ said) rising = rising_from place_of place (place_of entry) (flat_map zone_entries_in said) rising.0 (zone_entries_rise (place_of entry) said rising.1)

zones_rise : (place : Place) (zones : List ZoneLines) → Rising place_of place (flat_map entries_of_zone zones) → Rising zone_place place zones
zones_rise place [] rising = tt
zones_rise place (zone ∷ zones) rising =
    (rising.0, zones_rise zone.first.place zones (last_rising place_of zone.first.place (map entries.Continuation zone.continuations) (flat_map entries_of_zone zones) rising.1))

module _ (texts : List (List ℕ)) (source : SourceLines) (read : Read (events_of texts) source) where
  rising : Rising place_of before_all (entries_of read.statements)
  rising = said_rises texts source read

  zones_in_order : Rising zone_place before_all source.zones
  zones_in_order = zones_rise before_all source.zones (subst (Rising place_of before_all) (sym read.is.zones) (zone_entries_rise before_all (entries_of read.statements) rising))

  links_in_order : Rising link_place before_all source.links
  links_in_order = subst (Rising link_place before_all) (sym read.is.links) (links_rise before_all (entries_of read.statements) rising)

  apart_from_links : (zone : ZoneLines) → Contains source.zones zone → All (λ link. zone.first.place ≢ link.place) source.links
  apart_from_links zone has =
      let at : Contains (zone_lines_of source) zone.first = into_flat_map lines_of_zone source.zones zone zone.first has (first_contained zone.first zone.continuations) in
      all_if_each (λ link. zone.first.place ≢ link.place) source.links (λ link has_link. no_link texts source read zone.first link at has_link)

  pub are_in_order : AreInOrder source
  are_in_order = record {
    zones = each_before zone_place before_all source.zones zones_in_order;
    links = each_before link_place before_all source.links links_in_order;
    apart = all_if_each (λ zone. All (λ link. zone.first.place ≢ link.place) source.links) source.zones apart_from_links;
  }
