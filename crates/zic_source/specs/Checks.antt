-- The checks of what a line adds to a source, in order, each with the kind of fault of a line that fails it. They come after those
-- of the line itself. The order is own choice.
use Rattle.std.specs.Prelude.{◌+◌, Bool, not, List, [], ◌∷◌, length, nat_lt}
use Rattle.zic_base.specs.declared.fault.Kind.{Kind}
use Rattle.zic_base.specs.declared.fault.Kind.TheVariants.{DuplicateName, TooMany}
use Rattle.zic_base.specs.Check.{Check, check}
use Rattle.zic_lines.specs.declared.entry.Entry.{Entry}
use Rattle.zic_lines.specs.declared.entry.Entry.TheVariants as entries
use Rattle.zic_source.specs.declared.source.TheConstants.{MAX_RULES, MAX_RULES_OF_SET, MAX_ZONE_LINES, MAX_NAMES}
use Rattle.zic_source.specs.Source.{SourceLines, set_size, zone_lines_of}
use Rattle.zic_source.specs.Links.{is_named}

-- There are fewer Zone and continuation lines than there may be.
abbrev pub has_room_for_line : SourceLines → Bool
has_room_for_line source = nat_lt (length (zone_lines_of source)) MAX_ZONE_LINES

-- There are fewer names of zones and links than there may be.
abbrev pub has_room_for_name : SourceLines → Bool
has_room_for_name source = nat_lt (length source.zones + length source.links) MAX_NAMES

-- one entry more
abbrev pub entry_checks : SourceLines → Entry → List (Check Kind)
entry_checks source (entries.Rule rule) =
    check (nat_lt (set_size rule.name source.rules) MAX_RULES_OF_SET) TooMany
    ∷ check (nat_lt (length source.rules) MAX_RULES) TooMany
    ∷ []
entry_checks source (entries.Zone name line) =
    check (not (is_named source name)) DuplicateName
    ∷ check (has_room_for_line source) TooMany
    ∷ check (has_room_for_name source) TooMany
    ∷ []
entry_checks source (entries.Continuation line) =
    check (has_room_for_line source) TooMany
    ∷ []
entry_checks source (entries.Link link) =
    check (not (is_named source link.name)) DuplicateName
    ∷ check (has_room_for_name source) TooMany
    ∷ []
