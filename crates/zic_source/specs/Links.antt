-- Where links lead: zic(8), FILES. That a link may lead to another link, and that its chain has to end at a zone, is own choice.
-- Where names differ, a link's chain ends in just one of three ways: at a zone, at a name that isn't there, or never.
use Rattle.std.specs.Prelude.{◌≡◌, ℕ, Bool, not, ◌||◌, List, [], ◌∷◌, Contains, IsTrue, IsSomeAnd, bytes_eq}
use Rattle.std.specs.List.{list_any}
use Rattle.zic_lines.specs.declared.link.Link.{Link}
use Rattle.zic_source.specs.Source.{SourceLines, ZoneLines, zone_at}

-- a link has this name
abbrev pub is_link_name : SourceLines → List ℕ → Bool
is_link_name source name = list_any (λ link. bytes_eq link.name name) source.links

-- a zone has this name
abbrev pub is_zone_name : SourceLines → List ℕ → Bool
is_zone_name source name = list_any (λ zone. bytes_eq zone.name name) source.zones

-- a zone or a link has this name
abbrev pub is_named : SourceLines → List ℕ → Bool
is_named source name = is_zone_name source name || is_link_name source name

-- These links of the source, one after the other, lead from one name to another.
abbrev pub IsPath : SourceLines → List ℕ → List Link → List ℕ → Type 0
IsPath source from [] to = from ≡ to
IsPath source from (link ∷ path) to = Contains source.links link × (link.name ≡ from) × IsPath source link.target path to

-- Some links, or none, lead from one name to the other.
abbrev pub LeadsTo : SourceLines → List ℕ → List ℕ → Type 0
LeadsTo source from to = (path : List Link) × IsPath source from path to

-- The link's chain ends at a zone.
abbrev pub EndsAtZone : SourceLines → Link → Type 0
EndsAtZone source link = (zone : ZoneLines) × Contains source.zones zone × LeadsTo source link.target zone.name

-- The link's chain ends at the zone of this number.
abbrev pub EndsAt : SourceLines → Link → ℕ → Type 0
EndsAt source link number = IsSomeAnd (zone_at source number) (λ zone. LeadsTo source link.target zone.name)

-- The link's chain ends at a name that isn't there.
abbrev pub EndsNowhere : SourceLines → Link → Type 0
EndsNowhere source link = (name : List ℕ) × LeadsTo source link.target name × IsTrue (not (is_named source name))

-- The link's chain has no end: each name to which it leads is a link's.
abbrev pub HasNoEnd : SourceLines → Link → Type 0
HasNoEnd source link = (name : List ℕ) → LeadsTo source link.target name → IsTrue (is_link_name source name)
