-- The zones of a source, and the answers of a timeline.
use Rattle.std.specs.Prelude.{◌≡◌, ◌<◌, ℕ, ℤ, Some, List, [], length, slice_get, IsSomeAnd}
use Rattle.zic_states.specs.Change as changes
use Rattle.zic_states.specs.Change.{AreChanges}
use Rattle.zic_base.specs.State.{shown}
use Rattle.zic_base.specs.declared.state.State.{State}
use Rattle.zic_source.specs.Sound.{IsSoundSource}
use Rattle.zic_source.specs.Source.{SourceLines}
use Rattle.zic_states.specs.End.{IsEnd}
use Rattle.zic_states.specs.Fault.{IsSound}
use Rattle.zic_states.specs.Laws.{IsOrderly}
use Rattle.zic_states.specs.Tail.{HasNoSet}
use Rattle.zic_states.specs.Zone.{Zone, lines_of}

-- the zone of this number of a source
abbrev pub zone_of : SourceLines → ℕ → Zone
zone_of source number = record { source = source; number = number }

-- The zone has one line, whose RULES name no set.
abbrev pub IsFixed : Zone → Type 0
IsFixed zone = IsSomeAnd (lines_of zone) (λ lines. (lines.continuations ≡ []) × HasNoSet lines.first.rules)

-- a change by its instant and its state, without where the state's abbreviation lies
abbrev pub change_of : ℤ × State → changes.Change
change_of change = record { instant = change.0; state = shown change.1 }

-- the change at this place, from 0, of the zone's changes in the order of time
abbrev pub IsChangeAt : Zone → ℕ → changes.Change → Type 0
IsChangeAt zone i change = (all : List changes.Change) × AreChanges zone all × (slice_get all i ≡ Some change)

-- A zone of which the laws of zones hold: it is a zone of a sound source, no fault applies to it, so that its sets are in order and its
-- UNTILs rise, and it has an explicit end.
pub record IsWholeZone (zone : Zone) : Type 0 where
  pub source : IsSoundSource zone.source
  pub is_zone : zone.number < length zone.source.zones
  pub sound : IsSound zone
  pub orderly : IsOrderly zone
  pub has_end : (end : ℤ) × IsEnd zone end
