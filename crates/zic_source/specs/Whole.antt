-- Faults of a source as a whole: zic(8), FILES; which fault is the first is own choice.
use Rattle.std.specs.Prelude.{◌≡◌, Bool, false, not, List, Contains, IsTrue}
use Rattle.zic_base.specs.declared.fault.Place.{Place}
use Rattle.zic_base.specs.declared.fault.Fault.{Fault}
use Rattle.zic_base.specs.declared.fault.Kind.{Kind}
use Rattle.zic_base.specs.declared.fault.Kind.TheVariants.{UnknownRules, UnknownTarget, LinkCycle}
use Rattle.zic_lines.specs.declared.rule_line.Rule.{Rule}
use Rattle.zic_lines.specs.declared.rules.Rules.{Rules}
use Rattle.zic_lines.specs.declared.rules.Rules.TheVariants.{Standard, Amount, Set}
use Rattle.zic_lines.specs.declared.zone_line.ZoneLine.{ZoneLine}
use Rattle.zic_lines.specs.declared.link.Link.{Link}
use Rattle.zic_base.specs.Place.{IsBefore}
use Rattle.zic_source.specs.Source.{SourceLines, is_set, zone_lines_of}
use Rattle.zic_source.specs.Links.{EndsAtZone, EndsNowhere, HasNoEnd}

-- RULES names a set to which no rule belongs
abbrev pub is_unknown : List Rule → Rules → Bool
is_unknown rules Standard = false
is_unknown rules (Amount saving) = false
is_unknown rules (Set name) = not (is_set name rules)

-- each set that a zone's line names has a rule, and each link's chain ends at a zone
pub record IsWholeSource (source : SourceLines) : Type 0 where
  pub sets : (line : ZoneLine) → Contains (zone_lines_of source) line → is_unknown source.rules line.rules ≡ false
  pub links : (link : Link) → Contains source.links link → EndsAtZone source link

-- the source has a fault of this kind at this place
abbrev pub HasAt : SourceLines → Place → Kind → Type 0
HasAt source place UnknownRules = (line : ZoneLine) × Contains (zone_lines_of source) line × (line.place ≡ place) × IsTrue (is_unknown source.rules line.rules)
HasAt source place UnknownTarget = (link : Link) × Contains source.links link × (link.place ≡ place) × EndsNowhere source link
HasAt source place LinkCycle = (link : Link) × Contains source.links link × (link.place ≡ place) × HasNoEnd source link
HasAt source place _ = ⊥

-- The source has this fault, and none at an earlier place.
pub record HasFirst (source : SourceLines) (fault : Fault) : Type 0 where
  pub has : HasAt source fault.place fault.kind
  pub first : (place : Place) (kind : Kind) → HasAt source place kind → IsBefore place fault.place → ⊥
