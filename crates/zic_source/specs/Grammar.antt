-- The grammar: which texts are a source, and which source: zic(8), FILES, with own limits.
use Rattle.std.specs.Prelude.{◌≡◌, ◌≢◌, ◌≤◌, ℕ, zero, suc, Bool, false, List, [], ◌∷◌, length, flat_map, filter_map, is_some, slice_get, AllPairs, Option, Some, None, if◌then◌else◌}
use Rattle.std.specs.List.{AllZip}
use Rattle.std.specs.Option.{option_map_or}
use Rattle.zic_lines.specs.declared.entry.Entry.{Entry}
use Rattle.zic_lines.specs.declared.zone_line.ZoneLine.{ZoneLine}
use Rattle.zic_lines.specs.Entry as said_by
use Rattle.zic_lines.specs.Entry.{has_until, rules_in, zone_entries_in, links_in, names_in}
use Rattle.zic_lines.specs.Grammar.{Says}
use Rattle.zic_source.specs.declared.source.TheConstants.{MAX_RULES, MAX_RULES_OF_SET, MAX_ZONE_LINES, MAX_NAMES}
use Rattle.zic_source.specs.Event.{Event, Line, End, events_of}
use Rattle.zic_source.specs.Source.{SourceLines, set_size, zone_lines_of, entries_of_zone}
use Rattle.zic_source.specs.Whole.{IsWholeSource}

-- what an event says: a line its entry, where it isn't blank; the end of a text that the text ends
pub data Statement : Type 0 where
  Entered : Entry → Statement
  Ended : Statement

-- The event says this, or nothing.
abbrev pub EventSays : Event → Option Statement → Type 0
EventSays (Line line) None = Says line None
EventSays (Line line) (Some (Entered entry)) = Says line (Some entry)
EventSays (Line line) (Some Ended) = ⊥
EventSays End None = ⊥
EventSays End (Some (Entered entry)) = ⊥
EventSays End (Some Ended) = Unit {0}

-- what is said, without blank lines
abbrev pub said : List (Option Statement) → List Statement
said statements = filter_map (λ statement. statement) statements

-- the entry of a line
abbrev pub entries_in : Statement → List Entry
entries_in (Entered entry) = entry ∷ []
entries_in Ended = []

-- a Zone or continuation line with an UNTIL goes on; the end of a text doesn't
abbrev pub goes_on : Statement → Bool
goes_on (Entered entry) = said_by.goes_on entry
goes_on Ended = false

-- a continuation line continues; the end of a text doesn't
abbrev pub continues : Statement → Bool
continues (Entered entry) = said_by.is_continuation entry
continues Ended = false

-- the last of some lines, where it has an UNTIL
abbrev pub last_until : List ZoneLine → Option ZoneLine
last_until [] = None
last_until (line ∷ []) = if has_until line then Some line else None
last_until (line ∷ other ∷ lines) = last_until (other ∷ lines)

-- the last Zone or continuation line, where it has an UNTIL, so that a continuation line has to follow
abbrev pub open_line : SourceLines → Option ZoneLine
open_line source = last_until (zone_lines_of source)

-- A continuation line has to follow.
abbrev pub is_open : SourceLines → Bool
is_open source = is_some (open_line source)

-- Statement k, counted from 1, goes on. For k = 0 there is no such statement, and this is false.
abbrev pub goes_on_after : List Statement → ℕ → Bool
goes_on_after statements zero = false
goes_on_after statements (suc k) = option_map_or goes_on (slice_get statements k) false

-- A continuation line stands where it has to, and nowhere else: the first statement continues no zone, and statement k + 1, counted
-- from 1, continues one exactly if statement k goes on. After the last, a continuation line still has to follow exactly if it goes on.
pub record AreContinued (statements : List Statement) (still : Bool) : Type 0 where
  pub each : (k : ℕ) (statement : Statement) → slice_get statements k ≡ Some statement → continues statement ≡ goes_on_after statements k
  pub last : still ≡ goes_on_after statements (length statements)

-- These events are read, and this is the source that they say. How many lines and names there may be, and that no name is given
-- twice, is own choice.
pub record IsRead (events : List Event) (source : SourceLines) : Type 0 where
  -- what each event says, and the entries of all lines
  pub statements : List (Option Statement)
  pub entries : List Entry
  pub each : AllZip EventSays events statements
  pub in_order : entries ≡ flat_map entries_in (said statements)
  -- Blank lines apart, a continuation line follows each Zone or continuation line with an UNTIL, and no other. So no text ends where one
  -- has to follow.
  pub continued : AreContinued (said statements) (is_open source)
  pub rules : source.rules ≡ flat_map rules_in entries
  pub zones : flat_map entries_of_zone source.zones ≡ flat_map zone_entries_in entries
  pub links : source.links ≡ flat_map links_in entries
  pub small_sets : (name : List ℕ) → set_size name source.rules ≤ MAX_RULES_OF_SET
  pub few_rules : length source.rules ≤ MAX_RULES
  pub few_zone_lines : length (zone_lines_of source) ≤ MAX_ZONE_LINES
  pub few_names : length (flat_map names_in entries) ≤ MAX_NAMES
  pub names_differ : AllPairs (λ name other. name ≢ other) (flat_map names_in entries)

-- All lines and ends of the texts are read.
abbrev pub IsReadable : List (List ℕ) → SourceLines → Type 0
IsReadable texts source = IsRead (events_of texts) source

-- The texts are a source, and this one: all is read, each set that a zone's line names has a rule, and each link's chain ends at
-- a zone.
pub record IsSource (texts : List (List ℕ)) (source : SourceLines) : Type 0 where
  pub read : IsReadable texts source
  pub whole : IsWholeSource source
