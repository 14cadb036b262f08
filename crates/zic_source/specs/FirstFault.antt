-- Which fault of some texts is the first: own choice. It is the fault of the first line or text's end that can't be read after what
-- comes before it; only where all is read is it the first of the source as a whole.
use Rattle.std.specs.Prelude.{◌≡◌, ◌≤◌, ℕ, List, ◌∷◌, ◌++◌, Some, ◌⊎◌, length, IsSomeAnd}
use Rattle.zic_base.specs.declared.fault.Fault.{Fault}
use Rattle.zic_base.specs.declared.fault.Kind.TheVariants.{NoContinuation}
use Rattle.zic_base.specs.Fault.{fault_at, IsFirstFailed}
use Rattle.zic_lines.specs.declared.entry.Entry.{Entry}
use Rattle.zic_lines.specs.Entry.{is_continuation}
use Rattle.zic_lines.specs.declared.field.TheConstants.{LONGEST_LINE}
use Rattle.zic_lines.specs.Line.{PlacedLine}
use Rattle.zic_lines.specs.Grammar.{Says}
use Rattle.zic_lines.specs.Checks.{line_checks}
use Rattle.zic_source.specs.Event.{Event, Line, End, events_of}
use Rattle.zic_source.specs.Source.{SourceLines}
use Rattle.zic_source.specs.Grammar.{open_line, is_open, IsRead, IsReadable}
use Rattle.zic_source.specs.Checks.{entry_checks}
use Rattle.zic_source.specs.Whole.{HasFirst}

-- The line, after this source, is right by itself and says this.
abbrev pub SaysNext : SourceLines → PlacedLine → Entry → Type 0
SaysNext source line entry = Says line (Some entry) × (is_continuation entry ≡ is_open source)

-- The event that comes next, after this source, has this fault: a line that of the first of its own checks that fails, or else of the first
-- check of what it adds; the end of a text that of the last UNTIL, where a continuation line has to follow.
abbrev pub Fails : SourceLines → Event → Fault → Type 0
Fails source (Line line) fault =
    IsFirstFailed line.place (line_checks (is_open source) line.bytes) fault
    ⊎ ((entry : Entry) × SaysNext source line entry × IsFirstFailed line.place (entry_checks source entry) fault)
Fails source End fault = IsSomeAnd (open_line source) (λ line. fault ≡ fault_at line.place NoContinuation)

-- an event of the texts, and the source that all events before it say
pub record IsReached (texts : List (List ℕ)) (source : SourceLines) (event : Event) : Type 0 where
  pub before : List Event
  pub after : List Event
  pub located : events_of texts ≡ before ++ event ∷ after
  pub read : IsRead before source

-- an event of the texts has this fault, and all events before it are read
pub record IsReadingFault (texts : List (List ℕ)) (fault : Fault) : Type 0 where
  pub source : SourceLines
  pub event : Event
  pub reached : IsReached texts source event
  pub fails : Fails source event fault

-- the first fault of the texts: of a line or an end, or, where all is read, of the source as a whole
abbrev pub IsFirstFault : List (List ℕ) → Fault → Type 0
IsFirstFault texts fault = IsReadingFault texts fault ⊎ ((source : SourceLines) × IsReadable texts source × HasFirst source fault)

-- Memory may be wanted: for a line that isn't too long, before which all is read, or where all is read. Where the first line of all
-- is too long it may not; beyond that no place can be given, since the answer has none.
abbrev pub MayRunOutOfMemory : List (List ℕ) → Type 0
MayRunOutOfMemory texts =
    ((source : SourceLines) × (line : PlacedLine) × IsReached texts source (Line line) × (length line.bytes ≤ LONGEST_LINE))
    ⊎ ((source : SourceLines) × IsReadable texts source)
