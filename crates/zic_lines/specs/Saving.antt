-- SAVE of a Rule line, or an amount in RULES: zic(8), FILES; the limit is own choice.
use Rattle.std.specs.Prelude.{ℕ, Bool, true, false, not, List, pos, Option, Some, None, option_map, if◌then◌else◌}
use Rattle.std.specs.Ordering.{int_eq}
use Rattle.zic_lines.specs.declared.time.Saving.{Saving}
use Rattle.zic_lines.specs.declared.time.TheConstants.{GREATEST_OFFSET}
use Rattle.zic_lines.specs.Dash.{is_dash}
use Rattle.zic_lines.specs.Time.{signed_seconds}
use Rattle.zic_lines.specs.Clock.{last_byte, without_last, is_letter}

-- whether a suffix names daylight saving time: `s` standard time, `d` daylight saving time
abbrev pub daylight_suffix : ℕ → Option Bool
daylight_suffix byte = if is_letter 115 byte then Some false else (if is_letter 100 byte then Some true else None)

-- a saving before this suffix; without one 0 is standard time, and any other is daylight saving time
abbrev pub saving_by : Option Bool → List ℕ → Option Saving
saving_by None field = option_map (λ s. record { seconds = s; daylight = not (int_eq s (pos 0)) }) (signed_seconds GREATEST_OFFSET field)
saving_by (Some daylight) field = option_map (λ s. record { seconds = s; daylight = daylight }) (signed_seconds GREATEST_OFFSET (without_last field))

-- SAVE in seconds, at most 24 hours either way, and its flag; `-` is 0 and standard time
unfoldable pub saving_of : List ℕ → Option Saving
saving_of field = if is_dash field then Some (record { seconds = pos 0; daylight = false }) else saving_by (daylight_suffix (last_byte field)) field
