-- How the code finds where the chains of links end; no public contract cites it.
use Rattle.std.specs.Prelude.{◌≡◌, ℕ, List, Option, Some, Contains, ◌⊎◌, length, slice_get}
use Rattle.zic_lines.specs.declared.link.Link.{Link}
use Rattle.zic_source.specs.declared.chains.End.{End}
use Rattle.zic_source.specs.declared.chains.End.TheVariants as ends
use Rattle.zic_source.specs.Source.{SourceLines}
use Rattle.zic_source.specs.Links.{EndsAt, EndsNowhere, HasNoEnd}

-- the link's chain ends so
abbrev pub EndsAs : SourceLines → Link → End → Type 0
EndsAs source link (ends.Zone number) = EndsAt source link number
EndsAs source link ends.Nowhere = EndsNowhere source link
EndsAs source link ends.Never = HasNoEnd source link

-- the chain of the link of this number ends so
abbrev pub ChainEnds : SourceLines → ℕ → End → Type 0
ChainEnds source i end = (link : Link) → slice_get source.links i ≡ Some link → EndsAs source link end

-- this end was found for the link of this number
abbrev pub IsFound : List (Option End) → ℕ → End → Type 0
IsFound found i end = slice_get found i ≡ Some (Some end)

-- some end was found for it
abbrev pub HasEnd : List (Option End) → ℕ → Type 0
HasEnd found i = (end : End) × IsFound found i end

-- each end that was found is right
abbrev pub AreRight : SourceLines → List (Option End) → Type 0
AreRight source found = (i : ℕ) (end : End) → IsFound found i end → ChainEnds source i end

-- the two differ at most at the numbers on the path
abbrev pub DifferOn : List ℕ → List (Option End) → List (Option End) → Type 0
DifferOn path found other = (i : ℕ) → Contains path i ⊎ (slice_get other i ≡ slice_get found i)

-- the chain of the link of this number ends at a zone, and this is the zone's number
abbrev pub EndsAtNumber : SourceLines → ℕ → ℕ → Type 0
EndsAtNumber source i zone = (link : Link) → slice_get source.links i ≡ Some link → EndsAt source link zone

-- for each link the number of the zone at its chain's end
pub record AreLinkZones (source : SourceLines) (zones : List ℕ) : Type 0 where
  pub long : length zones ≡ length source.links
  pub ends : (i zone : ℕ) → slice_get zones i ≡ Some zone → EndsAtNumber source i zone
