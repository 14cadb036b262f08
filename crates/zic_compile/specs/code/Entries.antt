-- Files as a list of images, one for each zone, and of entries, each with the number of its zone.
use Rattle.std.specs.Prelude.{◌≡◌, ◌⊎◌, ℕ, List, slice_get, All, AllPairs, Contains, IfSome, IsSomeAnd}
use Rattle.std.specs.List.{AllZip}
use Rattle.zic_base.specs.Place.{IsBefore}
use Rattle.zic_base.specs.declared.fault.Place.{Place}
use Rattle.zic_lines.specs.declared.link.Link.{Link}
use Rattle.zic_source.specs.Links.{EndsAt}
use Rattle.zic_source.specs.Source.{SourceLines, zone_at}
use Rattle.zic_files.specs.declared.names.Entry.{Entry}

-- the entry of the zone of this number
pub record IsEntryOfZone (source : SourceLines) (number : ℕ) (entry : Entry) : Type 0 where
  pub zone : entry.zone ≡ number
  pub named : IfSome (zone_at source number) (λ zone. entry.name ≡ zone.name)

-- the entry of the link of this number
abbrev pub IsEntryOfLink : SourceLines → ℕ → Entry → Type 0
IsEntryOfLink source number entry =
    IfSome (slice_get source.links number) (λ link. (entry.name ≡ link.name)
    × EndsAt source link entry.zone)

-- The zone of the first number is there, and its Zone line stands before the link of the other
-- number, if that is there.
abbrev pub IsZoneNext : SourceLines → ℕ → ℕ → Type 0
IsZoneNext source number link =
    IsSomeAnd (zone_at source number)
    (λ zone. IfSome (slice_get source.links link) (λ l. IsBefore zone.first.place l.place))

-- The link of the second number is there, and stands before the Zone line of the zone of the first
-- number, if that is there.
abbrev pub IsLinkNext : SourceLines → ℕ → ℕ → Type 0
IsLinkNext source number link =
    IsSomeAnd (slice_get source.links link)
    (λ l. IfSome (zone_at source number) (λ zone. IsBefore l.place zone.first.place))

-- an entry of the Zone line at this place
abbrev pub IsZoneEntry : SourceLines → Place → Entry → Type 0
IsZoneEntry source place entry =
    IsSomeAnd (zone_at source entry.zone) (λ zone. (zone.first.place ≡ place)
    × (entry.name ≡ zone.name))

-- an entry of the Link line at this place
pub record IsLinkEntry (source : SourceLines) (place : Place) (entry : Entry) : Type 0 where
  pub link : Link
  pub is_link : Contains source.links link
  pub at_place : link.place ≡ place
  pub named : entry.name ≡ link.name
  pub ends : EndsAt source link entry.zone

-- an entry of the Zone or Link line at this place
abbrev pub IsEntryAt : SourceLines → Place → Entry → Type 0
IsEntryAt source place entry = IsZoneEntry source place entry ⊎ IsLinkEntry source place entry

-- one entry for each Zone and each Link line, in the order of the texts and their lines
pub record AreEntriesOf (source : SourceLines) (entries : List Entry) : Type 0 where
  pub places : List Place
  pub rising : AllPairs IsBefore places
  pub each : AllZip (IsEntryAt source) places entries
  pub zones : All (λ zone. Contains places zone.first.place) source.zones
  pub links : All (λ link. Contains places link.place) source.links
