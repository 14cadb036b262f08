-- How the code reads on, event by event, whatever was read before; no public contract cites it.
use Rattle.std.specs.Prelude.{◌≡◌, ◌≤◌, List, ◌∷◌, ◌++◌, None, length}
use Rattle.zic_base.specs.Check.{first_failed}
use Rattle.zic_base.specs.declared.fault.Fault.{Fault}
use Rattle.zic_lines.specs.declared.entry.Entry.{Entry}
use Rattle.zic_lines.specs.declared.field.TheConstants.{LONGEST_LINE}
use Rattle.zic_lines.specs.Line.{PlacedLine}
use Rattle.zic_source.specs.Event.{Event, Line}
use Rattle.zic_source.specs.Source.{SourceLines}
use Rattle.zic_source.specs.Grammar.{IsRead}
use Rattle.zic_source.specs.Checks.{entry_checks}
use Rattle.zic_source.specs.FirstFault.{Fails}
use Rattle.zic_source.specs.code.Adding.{with_entry}

-- no check of the entry fails, and the new source is the old one with it
pub record Adds (old : SourceLines) (entry : Entry) (new : SourceLines) : Type 0 where
  pub passes : first_failed (entry_checks old entry) ≡ None
  pub is : new ≡ with_entry old entry

-- where the old source was read before these events, the new one is after them
abbrev pub Leads : SourceLines → List Event → SourceLines → Type 0
Leads old events new = (before : List Event) → IsRead before old → IsRead (before ++ events) new

-- one of these events, and the source that was read before it, from the old one on
pub record IsMet (old : SourceLines) (events : List Event) (source : SourceLines) (event : Event) : Type 0 where
  pub before : List Event
  pub after : List Event
  pub located : events ≡ before ++ event ∷ after
  pub leads : Leads old before source

-- one of these events has this fault
abbrev pub FailsIn : SourceLines → List Event → Fault → Type 0
FailsIn old events fault = (source : SourceLines) × (event : Event) × IsMet old events source event × Fails source event fault

-- one of these events is a line that isn't too long
abbrev pub WantsIn : SourceLines → List Event → Type 0
WantsIn old events = (source : SourceLines) × (line : PlacedLine) × IsMet old events source (Line line) × (length line.bytes ≤ LONGEST_LINE)
