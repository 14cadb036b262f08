-- The names of zones and links, by their numbers.
use Rattle.std.proofs.Common.{◌≡◌, ◌+◌, ℕ, false, inl, inr, List, length, map, Some, sym, ap, subst, ◌∙◌, arith}
use Rattle.std.specs.Prelude.{Contains, bytes_eq, slice_get}
use Rattle.std.proofs.lemmas.Bool.{cases_Bool}
use Rattle.std.proofs.lemmas.List.{length-map}
use Rattle.std.proofs.lemmas.Option.{same_Some}
use Rattle.zic_lines.specs.declared.link.Link.{Link}
use Rattle.zic_source.specs.Links.{EndsAt, LeadsTo, is_link_name}
use Rattle.zic_source.specs.Sound.{IsSoundSource, names_of}
use Rattle.zic_source.specs.Source.{SourceLines, ZoneLines, zone_at}
use Rattle.zic_base.proofs.Elements.{contains_got, get_contained, one_that_passes}
use Rattle.zic_source.proofs.SameBytes.{bytes_eq_means}
use Rattle.zic_source.proofs.links.NamesDiffer.{NamesDiffer, one_end}
use Rattle.zic_base.proofs.Lists.{get_mapped}
use Rattle.zic_base.proofs.Options.{some_of}
use Rattle.zic_base.proofs.OrderedLists.{at_left, at_right, one_number}

module _ (source : SourceLines) where
  abbrev zone_names : List (List ℕ)
  zone_names = map (λ zone. zone.name) source.zones

  abbrev link_names : List (List ℕ)
  link_names = map (λ link. link.name) source.links

  -- the name of a zone
  pub zone_name : (n : ℕ) (zone : ZoneLines) → zone_at source n ≡ Some zone → slice_get (names_of source) n ≡ Some zone.name
  zone_name n zone at = at_left zone_names link_names n zone.name (get_mapped (λ (z : ZoneLines). z.name) source.zones n zone at)

  -- the name of a link
  pub link_name : (m : ℕ) (link : Link) → slice_get source.links m ≡ Some link → slice_get (names_of source) (length source.zones + m) ≡ Some link.name
  link_name m link at =
      let here = at_right zone_names link_names m link.name (get_mapped (λ (l : Link). l.name) source.links m link at) in
      let many : length zone_names + m ≡ length source.zones + m = omega (arith, length-map source.zones (λ (z : ZoneLines). z.name)) in
      subst (λ (k : ℕ). slice_get (names_of source) k ≡ Some link.name) many here

  module _ (sound : IsSoundSource source) where
    one_link : (k l : Link) → Contains source.links k → Contains source.links l → k.name ≡ l.name → k ≡ l
    one_link k l has_k has_l same =
        let at_k = get_contained source.links k has_k in
        let at_l = get_contained source.links l has_l in
        let number = one_number (names_of source) sound.names_differ (length source.zones + has_k.0) (length source.zones + has_l.0) k.name l.name
        (link_name has_k.0 k at_k) (link_name has_l.0 l at_l) same in
        let number : has_k.0 ≡ has_l.0 = omega (arith, number) in
        same_Some k l (sym at_k ∙ ap (slice_get source.links) number ∙ at_l)

    no_link : (zone : ZoneLines) → Contains source.zones zone → is_link_name source zone.name ≡ false
    no_link zone has = elim (cases_Bool (is_link_name source zone.name)) [
      | inl is ↦
          let (link, has_link, named) = one_that_passes (λ (l : Link). bytes_eq l.name zone.name) source.links is in
          let number = one_number (names_of source) sound.names_differ has.0 (length source.zones + has_link.0) zone.name link.name
          (zone_name has.0 zone (get_contained source.zones zone has)) (link_name has_link.0 link (get_contained source.links link has_link))
          (sym (bytes_eq_means link.name zone.name named)) in
          absurd (omega (arith, number, has.1))
      | inr none ↦ none
    ]

    differ : NamesDiffer source
    differ = record { one_link = one_link; no_link = no_link }

    -- a link's chain ends at one zone
    pub one_zone : (link : Link) (n m : ℕ) → EndsAt source link n → EndsAt source link m → n ≡ m
    one_zone link n m ends other =
        let (zone, at, (path, is)) = some_of (zone_at source n) (λ zone. LeadsTo source link.target zone.name) ends in
        let (last, at_last, (way, is_too)) = some_of (zone_at source m) (λ zone. LeadsTo source link.target zone.name) other in
        let no_zone = no_link zone (contains_got source.zones n zone at) in
        let no_last = no_link last (contains_got source.zones m last at_last) in
        let same = one_end source differ path way link.target zone.name last.name is is_too no_zone no_last in
        one_number (names_of source) sound.names_differ n m zone.name last.name (zone_name n zone at) (zone_name m last at_last) same
