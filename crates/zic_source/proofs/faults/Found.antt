-- The first fault of a source as a whole is the first of its zones' and its links' faults.
use Rattle.std.proofs.Common.{◌≡◌, ℕ, eqb, ◌⊎◌, inl, inr, ⊎_elim, List, length, Option, Some, None, refl, sym, ap, subst, ◌∙◌}
use Rattle.std.specs.Prelude.{Contains}
use Rattle.zic_source.specs.declared.sets.Sets.{Sets}
use Rattle.zic_source.specs.code.Sets.{numbers_of, IndexesSets}
use Rattle.zic_lines.specs.declared.rules.Rules.{Rules}
use Rattle.zic_lines.specs.declared.rules.Rules.TheVariants.{Set}
use Rattle.zic_source.proofs.lookups.Numbers.{set_rules_none}
use Rattle.zic_base.specs.declared.fault.Place.{Place}
use Rattle.zic_base.specs.declared.fault.Fault.{Fault}
use Rattle.zic_base.specs.declared.fault.Kind.{Kind}
use Rattle.zic_base.specs.declared.fault.Kind.TheVariants.{UnknownRules, UnknownTarget, LinkCycle}
use Rattle.zic_lines.specs.declared.rule_line.Rule.{Rule}
use Rattle.zic_lines.specs.declared.zone_line.ZoneLine.{ZoneLine}
use Rattle.zic_lines.specs.declared.link.Link.{Link}
use Rattle.zic_source.specs.declared.owners.Owners.{Owners}
use Rattle.zic_source.specs.Source.{SourceLines, ZoneLines, lines_of_zone}
use Rattle.zic_source.specs.code.Owners.{IndexesNames}
use Rattle.zic_source.specs.Links.{EndsAtZone}
use Rattle.zic_source.specs.Whole.{is_unknown, IsWholeSource, HasAt, HasFirst}
use Rattle.zic_base.specs.Fault.{fault_at}
use Rattle.zic_source.specs.code.Faults.{IsEarlier, IsFirst, LineIsRight, LineHas, ZoneIsRight, ZoneHas, LinkHas, IsFirstOfZones, IsFirstOfLinks}
use Rattle.zic_base.proofs.Elements.{from_flat_map, into_flat_map}
use Rattle.zic_source.proofs.links.Ways.{link_excludes}
use Rattle.zic_source.proofs.faults.Earlier.{earlier_first}

-- RULES names a set without a rule where the code finds no number of the set
pub unknown_seen : (sets : Sets) (rules : List Rule) (field : Rules) (name numbers : List ℕ) → IndexesSets sets rules → field ≡ Set name → numbers ≡ numbers_of sets name → is_unknown rules field ≡ eqb (length numbers) 0
unknown_seen sets rules field name numbers is set found =
    ap (is_unknown rules) set ∙ sym (ap (λ (ns : List ℕ). eqb (length ns) 0) (found ∙ is name) ∙ set_rules_none name rules)

pub line_excludes : (rules : List Rule) (line : ZoneLine) → LineIsRight rules line → (fault : Fault) → LineHas rules line fault → ⊥
line_excludes rules line right fault has = let unknown = has.1 in cc

pub zone_excludes : (rules : List Rule) (zone : ZoneLines) → ZoneIsRight rules zone → (fault : Fault) → ZoneHas rules zone fault → ⊥
zone_excludes rules zone right fault (line, at, has) = line_excludes rules line (right line at) fault has

module _ (source : SourceLines) where
  zones_have : (fault : Fault) → (zone : ZoneLines) × Contains source.zones zone × ZoneHas source.rules zone fault → HasAt source fault.place fault.kind
  zones_have fault (zone, at, (line, inside, faulty)) = subst (λ (f : Fault). HasAt source f.place f.kind) (sym faulty.0) (line, into_flat_map lines_of_zone source.zones zone line at inside, refl, faulty.1)

  links_have : (fault : Fault) → (link : Link) × Contains source.links link × LinkHas source link fault → HasAt source fault.place fault.kind
  links_have fault (link, at, inl nowhere) = subst (λ (f : Fault). HasAt source f.place f.kind) (sym nowhere.0) (link, at, refl, nowhere.1)
  links_have fault (link, at, inr never) = subst (λ (f : Fault). HasAt source f.place f.kind) (sym never.0) (link, at, refl, never.1)

  have_at : (place : Place) (kind : Kind) → HasAt source place kind
      → ((zone : ZoneLines) × Contains source.zones zone × ZoneHas source.rules zone (fault_at place kind)) ⊎ ((link : Link) × Contains source.links link × LinkHas source link (fault_at place kind))
  have_at place UnknownRules (line, at, same, unknown) = let zone = from_flat_map lines_of_zone source.zones line at in inl (zone.0, zone.1, (line, zone.2, (ap (λ (p : Place). fault_at p UnknownRules) (sym same), unknown)))
  have_at place UnknownTarget (link, at, same, nowhere) = inr (link, at, inl (ap (λ (p : Place). fault_at p UnknownTarget) (sym same), nowhere))
  have_at place LinkCycle (link, at, same, never) = inr (link, at, inr (ap (λ (p : Place). fault_at p LinkCycle) (sym same), never))
  have_at place _ h = absurd h

  module _ (names : Owners) (is : IndexesNames names source) (of_zones of_links found : Option Fault) (zones : IsFirstOfZones source of_zones) (links : IsFirstOfLinks source of_links) (earlier : IsEarlier of_zones of_links found) where
    first : IsFirst
        (((zone : ZoneLines) → Contains source.zones zone → ZoneIsRight source.rules zone) × ((link : Link) → Contains source.links link → EndsAtZone source link))
        (λ fault. ((zone : ZoneLines) × Contains source.zones zone × ZoneHas source.rules zone fault) ⊎ ((link : Link) × Contains source.links link × LinkHas source link fault))
        found
    first = earlier_first _ _ _ _
        (λ right fault has. zone_excludes source.rules has.0 (right has.0 has.1) fault has.2)
        (λ right fault has. link_excludes names source is has.0 (right has.0 has.1) fault has.2)
        of_zones of_links found earlier zones links

    -- a source without a fault is whole
    pub whole_if_none : found ≡ None → IsWholeSource source
    whole_if_none none =
        let right = subst (IsFirst _ _) none first in
        record {
          sets = λ line at. let zone = from_flat_map lines_of_zone source.zones line at in right.0 zone.0 zone.1 line zone.2;
          links = right.1;
        }

    -- the fault that is found is the first of the source
    pub first_if_some : (fault : Fault) → found ≡ Some fault → HasFirst source fault
    first_if_some fault some =
        let of = subst (IsFirst _ _) some first in
        record {
          has = ⊎_elim (zones_have fault) (links_have fault) of.0;
          first = λ place kind has before. of.1 (fault_at place kind) (have_at place kind has) before;
        }
