-- Where the chains of links end: each name leads one way.
use Rattle.std.proofs.Common.{◌≡◌, ◌<◌, ℕ, true, false, ⊎_elim, List, [], ◌∷◌, length, Option, Some, None, refl, sym, ap, ◌∙◌}
use Rattle.std.specs.Prelude.{Contains, not, is_some, slice_get}
use Rattle.std.proofs.lemmas.Bool.{false_from_ne_true}
use Rattle.std.proofs.lemmas.Option.{slice_get_within}
use Rattle.zic_lines.specs.declared.link.Link.{Link}
use Rattle.zic_base.specs.declared.fault.Fault.{Fault}
use Rattle.zic_source.specs.declared.chains.End.{End}
use Rattle.zic_source.specs.declared.chains.End.TheVariants as ends
use Rattle.zic_source.specs.declared.owners.Owner.{Owner}
use Rattle.zic_source.specs.declared.owners.Owner.TheVariants as named
use Rattle.zic_source.specs.declared.owners.Owners.{Owners}
use Rattle.zic_source.specs.Source.{SourceLines, ZoneLines, zone_at}
use Rattle.zic_source.specs.Links.{is_link_name, is_named, IsPath, LeadsTo, EndsAtZone, EndsAt}
use Rattle.zic_source.specs.code.Owners.{who, IndexesNames}
use Rattle.zic_source.specs.code.Chains.{EndsAs}
use Rattle.zic_source.specs.code.Faults.{LinkHas}
use Rattle.zic_source.proofs.links.NamesDiffer.{NamesDiffer, path_rest, not_nowhere, not_endless}
use Rattle.zic_source.proofs.SameBytes.{bytes_eq_means}
use Rattle.zic_base.proofs.Elements.{get_contained, contains_got}
use Rattle.zic_source.proofs.lookups.Named.{some_there, there_some, any_found, link_there, nobody}

-- the link of this number has a target that is the name of a link that passes
abbrev pub LeadsOn : Owners → SourceLines → (ℕ → Type 0) → ℕ → Type 0
LeadsOn names source Passes i = (link : Link) → slice_get source.links i ≡ Some link → (j : ℕ) × (who names link.target ≡ Some (named.Link j)) × Passes j

-- a chain that ends at the zone of a number ends at a zone
pub ends_at_some : (source : SourceLines) (link : Link) (zone : ℕ) → EndsAt source link zone → EndsAtZone source link
ends_at_some source link number at = let zone = some_there _ _ at in (zone.0, contains_got source.zones number zone.0 zone.1, zone.2)

-- a chain ends at a zone that is there
pub ends_within : (source : SourceLines) (link : Link) (zone : ℕ) → EndsAt source link zone → zone < length source.zones
ends_within source link number at = let zone = some_there _ _ at in slice_get_within source.zones number zone.0 zone.1

module _ (names : Owners) (source : SourceLines) (is : IndexesNames names source) where
  same_link : (k l : Link) → Contains source.links k → Contains source.links l → k.name ≡ l.name → k ≡ l
  same_link k l has_k has_l e =
      let at_k : slice_get source.links has_k.0 ≡ Some k = get_contained source.links k has_k in
      let at_l : slice_get source.links has_l.0 ≡ Some l = get_contained source.links l has_l in
      let is_k : who names k.name ≡ Some (named.Link has_k.0) = is.links has_k.0 k at_k in
      let is_l : who names l.name ≡ Some (named.Link has_l.0) = is.links has_l.0 l at_l in
      let names_same : who names k.name ≡ who names l.name = ap (who names) e in
      let numbers : has_k.0 ≡ has_l.0 = cc in
      let gets : slice_get source.links has_k.0 ≡ slice_get source.links has_l.0 = ap (slice_get source.links) numbers in
      cc

  zone_no_link : (zone : ZoneLines) → Contains source.zones zone → is_link_name source zone.name ≡ false
  zone_no_link zone has = false_from_ne_true _ (λ e.
      let link = any_found _ source.links e in
      let by_link : who names link.1.name ≡ Some (named.Link link.0) = is.links link.0 link.1 link.2 in
      let by_zone : who names zone.name ≡ Some (named.Zone has.0) = is.zones has.0 zone (get_contained source.zones zone has) in
      let same : who names link.1.name ≡ who names zone.name = ap (who names) (bytes_eq_means link.1.name zone.name link.3) in
      cc)

  -- no name is given twice
  differ : NamesDiffer source
  differ = record { one_link = same_link; no_link = zone_no_link }

  -- a link whose chain ends at a zone has no fault
  pub link_excludes : (link : Link) → EndsAtZone source link → (fault : Fault) → LinkHas source link fault → ⊥
  link_excludes link zone fault has = ⊎_elim (λ nowhere. not_nowhere source differ link zone nowhere.1) (λ never. not_endless source differ link zone never.1) has

  next_link : (target : List ℕ) (j : ℕ) → who names target ≡ Some (named.Link j) → (link : Link) × (slice_get source.links j ≡ Some link) × (link.name ≡ target)
  next_link target j e = some_there _ _ (is.link_has j target e)

  pub link_within : (target : List ℕ) (j : ℕ) → who names target ≡ Some (named.Link j) → j < length source.links
  link_within target j e = let next = next_link target j e in slice_get_within source.links j next.0 next.1

  never_on : (link next : Link) (j : ℕ) → slice_get source.links j ≡ Some next → next.name ≡ link.target → EndsAs source next ends.Never → (name : List ℕ) (path : List Link) → IsPath source link.target path name → is_link_name source name ≡ true
  never_on link next j at named never name [] e = link_there source j next name at (named ∙ e)
  never_on link next j at named never name (k ∷ path) p = never name (path, path_rest source differ link.target name next k path (contains_got source.links j next at) named p)

  -- a link's chain ends as the one of the link that it names
  ends_on : (link next : Link) (j : ℕ) → slice_get source.links j ≡ Some next → next.name ≡ link.target → (end : End) → EndsAs source next end → EndsAs source link end
  ends_on link next j at named (ends.Zone number) to =
      let zone = some_there _ _ to in
      there_some (zone_at source number) (λ z. LeadsTo source link.target z.name) zone.0 zone.1 (next ∷ zone.2.0, (contains_got source.links j next at, named, zone.2.1))
  ends_on link next j at named ends.Nowhere (name, leads, absent) = (name, (next ∷ leads.0, (contains_got source.links j next at, named, leads.1)), absent)
  ends_on link next j at named ends.Never never = λ name leads. never_on link next j at named never name leads.0 leads.1

  pub ends_as_next : (link : Link) (j : ℕ) → who names link.target ≡ Some (named.Link j) → (end : End) → ((next : Link) → slice_get source.links j ≡ Some next → EndsAs source next end) → EndsAs source link end
  ends_as_next link j e end of_next = let next = next_link link.target j e in ends_on link next.0 j next.1 next.2 end (of_next next.0 next.1)

  pub ends_at_zone : (link : Link) (i : ℕ) → who names link.target ≡ Some (named.Zone i) → EndsAs source link (ends.Zone i)
  ends_at_zone link i e = let zone = some_there _ _ (is.zone_has i link.target e) in there_some (zone_at source i) (λ z. LeadsTo source link.target z.name) zone.0 zone.1 ([], sym zone.2)

  pub ends_nowhere : (link : Link) → who names link.target ≡ None → EndsAs source link ends.Nowhere
  ends_nowhere link e =
      let absent : is_named source link.target ≡ false = sym (nobody names source link.target is) ∙ ap (λ (o : Option Owner). is_some o) e in
      (link.target, ([], refl), ap not absent)

  among : (Passes : ℕ → Type 0) → ((i : ℕ) → Passes i → LeadsOn names source Passes i) → (path : List Link) (i : ℕ) (link : Link) → Passes i → slice_get source.links i ≡ Some link → (name : List ℕ) → IsPath source link.target path name → is_link_name source name ≡ true
  among Passes closed [] i link passes at name e = let on = closed i passes link at in let next = next_link link.target on.0 on.1 in link_there source on.0 next.0 name next.1 (next.2 ∙ e)
  among Passes closed (k ∷ path) i link passes at name p =
      let on = closed i passes link at in
      let next = next_link link.target on.0 on.1 in
      among Passes closed path on.0 next.0 on.2 next.1 name (path_rest source differ link.target name next.0 k path (contains_got source.links on.0 next.0 next.1) next.2 p)

  -- links that lead only to one another have no end
  pub never_ends : (Passes : ℕ → Type 0) → ((i : ℕ) → Passes i → LeadsOn names source Passes i) → (i : ℕ) (link : Link) → Passes i → slice_get source.links i ≡ Some link → EndsAs source link ends.Never
  never_ends Passes closed i link passes at = λ name leads. among Passes closed leads.0 i link passes at name leads.1
