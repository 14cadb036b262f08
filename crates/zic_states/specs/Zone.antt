-- The state that a zone shows at an instant: zic(8), FILES. The window at the start of a line with a set is an own choice: it is taken
-- once, and includes its last instant.
use Rattle.std.specs.Prelude.{◌≡◌, ℕ, zero, suc, ℤ, pos, ◌+ℤ◌, ◌-ℤ◌, ◌<ℤ◌, ◌≤ℤ◌, List, Option, Some, None, IsSomeAnd, slice_get}
use Rattle.std.specs.Int.{int_max}
use Rattle.std.specs.Option.{MatchOption}
use Rattle.zic_base.specs.Option.{◌>>=◌}
use Rattle.zic_lines.specs.declared.zone_line.ZoneLine.{ZoneLine}
use Rattle.zic_source.specs.Source.{SourceLines, ZoneLines, zone_at, lines_of_zone}
use Rattle.zic_states.specs.Abbreviation.{abbreviation}
use Rattle.zic_states.specs.InForce.{InForce, RulesHaveInForce}
use Rattle.zic_base.specs.State.{Shown}
use Rattle.zic_states.specs.Until.{IsUntil}

-- a zone of a source, by its number from 0
pub record Zone : Type 0 where
  pub source : SourceLines
  pub number : ℕ

-- the lines of the zone
abbrev pub lines_of : Zone → Option ZoneLines
lines_of zone = zone_at zone.source zone.number

-- a line of the zone, by its number from 0: the Zone line, then its continuation lines
abbrev pub line_at : Zone → ℕ → Option ZoneLine
line_at zone i = do
  lines ← lines_of zone
  slice_get (lines_of_zone lines) i

-- the instant of a line's UNTIL, at which it ends
abbrev pub Ends : Zone → ℕ → ℤ → Type 0
Ends zone i t = IsSomeAnd (line_at zone i) (λ line. IsUntil zone.source.rules line t)

-- The line has begun at t: the line before it ends at t or earlier. The first line has no beginning.
abbrev pub HasBegun : Zone → ℕ → ℤ → Type 0
HasBegun zone zero t = Unit {0}
HasBegun zone (suc i) t = (start : ℤ) × Ends zone i start × (start ≤ℤ t)

-- The line isn't over at t: it has no UNTIL, or t is before it.
abbrev pub IsNotOver : Zone → ZoneLine → ℤ → Type 0
IsNotOver zone line t =
    MatchOption line.until (Unit {0}) (λ _. (end : ℤ) × IsUntil zone.source.rules line end × (t <ℤ end))

-- The line of this number governs at t.
pub record Governs (zone : Zone) (i : ℕ) (line : ZoneLine) (t : ℤ) : Type 0 where
  pub is_line : line_at zone i ≡ Some line
  pub begun : HasBegun zone i t
  pub not_over : IsNotOver zone line t

-- The line has this in force by the last of its occurrences, of those before its UNTIL, that isn't after t.
abbrev pub HasInForceBy : Zone → ZoneLine → ℤ → InForce → Type 0
HasInForceBy zone line t in_force = RulesHaveInForce zone.source.rules line line.rules (λ u. (u ≤ℤ t) × IsNotOver zone line u) in_force

-- the line's UT offset at t: its standard offset and the saving in force
abbrev pub HasOffset : (ZoneLine → ℤ → InForce → Type 0) → ZoneLine → ℤ → ℤ → Type 0
HasOffset HasInForce line t offset = (in_force : InForce) × HasInForce line t in_force × (offset ≡ line.offset +ℤ in_force.saving)

-- The window of a line that follows line i ends at this instant. Just before the start the earlier line has one offset, and at the start
-- the later line has another by itself. Where clocks go back from the one to the other, the window lasts for the seconds by which
-- they do; else it ends at the start.
pub record IsWindowEnd (zone : Zone) (i : ℕ) (HasEarlierInForce : ZoneLine → ℤ → InForce → Type 0) (later : ZoneLine) (end : ℤ) : Type 0 where
  pub start : ℤ
  pub starts : Ends zone i start
  pub before : ℤ
  pub is_before : IsSomeAnd (line_at zone i) (λ earlier. HasOffset HasEarlierInForce earlier (start -ℤ pos 1) before)
  pub after : ℤ
  pub is_after : HasOffset (HasInForceBy zone) later start after
  pub is : end ≡ start +ℤ int_max (pos 0) (before -ℤ after)

-- The line of this number has this in force at t: by the last of its occurrences not after t. What its occurrences say in its window, up to and
-- including its end, holds from the start on.
unfoldable pub HasInForce : Zone → ℕ → ZoneLine → ℤ → InForce → Type 0
HasInForce zone zero line t in_force = HasInForceBy zone line t in_force
HasInForce zone (suc i) line t in_force =
    (end : ℤ) × IsWindowEnd zone i (HasInForce zone i) line end × HasInForceBy zone line (int_max t end) in_force

-- The zone has this in force at t by this line, which governs.
pub record ZoneHasInForce (zone : Zone) (t : ℤ) (line : ZoneLine) (in_force : InForce) : Type 0 where
  pub number : ℕ
  pub governs : Governs zone number line t
  pub keeps : HasInForce zone number line t in_force

-- The zone shows this state at t: the governing line's standard offset and what is in force, and its FORMAT filled in.
pub record Shows (zone : Zone) (t : ℤ) (state : Shown) : Type 0 where
  pub line : ZoneLine
  pub in_force : InForce
  pub keeps : ZoneHasInForce zone t line in_force
  pub offset : state.offset ≡ line.offset +ℤ in_force.saving
  pub daylight : state.daylight ≡ in_force.daylight
  pub name : abbreviation line.format state.offset in_force.daylight in_force.letter ≡ Some state.name
