-- How the code finds who has a name; no public contract cites it.
use Rattle.std.specs.Prelude.{◌≡◌, ℕ, List, Option, Some, slice_get, IsSomeAnd, if◌then◌else◌, bytes_eq}
use Rattle.std.specs.HashMap.{get}
use Rattle.zic_lines.specs.declared.link.Link.{Link}
use Rattle.zic_source.specs.declared.owners.Owner.{Owner}
use Rattle.zic_source.specs.declared.owners.Owner.TheVariants as named
use Rattle.zic_source.specs.declared.owners.Owners.{Owners}
use Rattle.zic_source.specs.Source.{SourceLines, ZoneLines}

-- who has this name
abbrev pub who : Owners → List ℕ → Option Owner
who names name = get bytes_eq names.names name

-- the name has this owner now, and each other name the one that it had
abbrev pub Gives : Owners → List ℕ → Owner → Owners → Type 0
Gives old name owner new = (other : List ℕ) → who new other ≡ (if bytes_eq name other then Some owner else who old other)

-- The names are those of the zones and links of the source, each of one of them.
pub record IndexesNames (names : Owners) (source : SourceLines) : Type 0 where
  pub zones : (i : ℕ) (zone : ZoneLines) → slice_get source.zones i ≡ Some zone → who names zone.name ≡ Some (named.Zone i)
  pub links : (i : ℕ) (link : Link) → slice_get source.links i ≡ Some link → who names link.name ≡ Some (named.Link i)
  pub zone_has : (i : ℕ) (name : List ℕ) → who names name ≡ Some (named.Zone i) → IsSomeAnd (slice_get source.zones i) (λ zone. zone.name ≡ name)
  pub link_has : (i : ℕ) (name : List ℕ) → who names name ≡ Some (named.Link i) → IsSomeAnd (slice_get source.links i) (λ link. link.name ≡ name)
