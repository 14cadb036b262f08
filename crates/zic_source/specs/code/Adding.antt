-- The source with what one line more says, as the code adds it; no public contract cites it.
use Rattle.std.specs.Prelude.{ℕ, not, List, [], ◌∷◌, ◌++◌}
use Rattle.zic_base.specs.declared.fault.Kind.{Kind}
use Rattle.zic_base.specs.declared.fault.Kind.TheVariants.{DuplicateName, TooMany}
use Rattle.zic_base.specs.Check.{Check, check}
use Rattle.zic_lines.specs.declared.zone_line.ZoneLine.{ZoneLine}
use Rattle.zic_lines.specs.declared.entry.Entry.{Entry}
use Rattle.zic_lines.specs.declared.entry.Entry.TheVariants as entries
use Rattle.zic_source.specs.Source.{ZoneLines, SourceLines}
use Rattle.zic_source.specs.Links.{is_named}
use Rattle.zic_source.specs.Checks.{has_room_for_line, has_room_for_name}

-- the zones, the last of them with one continuation line more
abbrev pub continued : List ZoneLines → ZoneLine → List ZoneLines
continued [] line = []
continued (zone ∷ []) line = record zone { continuations = zone.continuations ++ line ∷ [] } ∷ []
continued (zone ∷ other ∷ zones) line = zone ∷ continued (other ∷ zones) line

-- the source with one entry more
abbrev pub with_entry : SourceLines → Entry → SourceLines
with_entry source (entries.Rule rule) = record source { rules = source.rules ++ rule ∷ [] }
with_entry source (entries.Zone name line) = record source { zones = source.zones ++ record { name = name; first = line; continuations = [] } ∷ [] }
with_entry source (entries.Continuation line) = record source { zones = continued source.zones line }
with_entry source (entries.Link link) = record source { links = source.links ++ link ∷ [] }

-- the checks of a zone of this name
abbrev pub zone_checks : SourceLines → List ℕ → List (Check Kind)
zone_checks source name =
    check (not (is_named source name)) DuplicateName
    ∷ check (has_room_for_line source) TooMany
    ∷ check (has_room_for_name source) TooMany
    ∷ []

-- the checks of a link of this name
abbrev pub link_checks : SourceLines → List ℕ → List (Check Kind)
link_checks source name =
    check (not (is_named source name)) DuplicateName
    ∷ check (has_room_for_name source) TooMany
    ∷ []
