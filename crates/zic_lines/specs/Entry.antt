-- The content of one line: zic(8), FILES. A Rule line says a rule, a Zone line a zone's name and its first line, a continuation line
-- one more line of the zone, and a Link line a link.
use Rattle.std.specs.Prelude.{is_some, ℕ, Bool, true, false, List, [], ◌∷◌}
use Rattle.zic_lines.specs.declared.rule_line.Rule.{Rule}
use Rattle.zic_lines.specs.declared.zone_line.ZoneLine.{ZoneLine}
use Rattle.zic_lines.specs.declared.link.Link.{Link}
use Rattle.zic_lines.specs.declared.entry.Entry.{Entry}
use Rattle.zic_lines.specs.declared.entry.Entry.TheVariants as entries

-- the line has an UNTIL
abbrev pub has_until : ZoneLine → Bool
has_until line = is_some line.until

-- it is a continuation line
abbrev pub is_continuation : Entry → Bool
is_continuation (entries.Rule rule) = false
is_continuation (entries.Zone name line) = false
is_continuation (entries.Continuation line) = true
is_continuation (entries.Link link) = false

-- it is a Zone or continuation line with an UNTIL, so that a continuation line follows
abbrev pub goes_on : Entry → Bool
goes_on (entries.Rule rule) = false
goes_on (entries.Zone name line) = has_until line
goes_on (entries.Continuation line) = has_until line
goes_on (entries.Link link) = false

-- the rule of a Rule line
abbrev pub rules_in : Entry → List Rule
rules_in (entries.Rule rule) = rule ∷ []
rules_in (entries.Zone name line) = []
rules_in (entries.Continuation line) = []
rules_in (entries.Link link) = []

-- the link of a Link line
abbrev pub links_in : Entry → List Link
links_in (entries.Rule rule) = []
links_in (entries.Zone name line) = []
links_in (entries.Continuation line) = []
links_in (entries.Link link) = link ∷ []

-- the line itself, where it is a Zone or continuation line
abbrev pub zone_entries_in : Entry → List Entry
zone_entries_in (entries.Rule rule) = []
zone_entries_in (entries.Zone name line) = entries.Zone name line ∷ []
zone_entries_in (entries.Continuation line) = entries.Continuation line ∷ []
zone_entries_in (entries.Link link) = []

-- the name that a Zone or Link line gives
abbrev pub names_in : Entry → List (List ℕ)
names_in (entries.Rule rule) = []
names_in (entries.Zone name line) = name ∷ []
names_in (entries.Continuation line) = []
names_in (entries.Link link) = link.name ∷ []
