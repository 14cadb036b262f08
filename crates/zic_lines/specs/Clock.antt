-- The time of day of AT and of an UNTIL, and its clock: zic(8), FILES; the limit, and that a suffix wants hours, is own choice.
use Rattle.std.specs.Prelude.{ℕ, ◌+◌, ◌-◌, Bool, ◌||◌, List, length, take, slice_index, pos, Option, Some, None, option_map, if◌then◌else◌, ◌==◌}
use Rattle.zic_lines.specs.declared.clock.ClockForm.{ClockForm}
use Rattle.zic_lines.specs.declared.clock.ClockForm.TheVariants.{Wall, Standard, Universal}
use Rattle.zic_lines.specs.declared.clock.ClockTime.{ClockTime}
use Rattle.zic_lines.specs.declared.clock.TheConstants.{LATEST_TIME}
use Rattle.zic_lines.specs.Dash.{is_dash}
use Rattle.zic_lines.specs.Time.{signed_seconds}

-- the last byte of a text, which is its suffix where it is a letter
abbrev pub last_byte : List ℕ → ℕ
last_byte text = slice_index text (length text - 1)

-- the text without its suffix
abbrev pub without_last : List ℕ → List ℕ
without_last text = take (length text - 1) text

-- the byte is this letter, in either case
abbrev pub is_letter : ℕ → ℕ → Bool
is_letter small byte = byte == small || byte + 32 == small

-- the clock that a suffix names: `w` wall clock time, `s` standard time, `u`, `g` or `z` universal time
abbrev pub clock_suffix : ℕ → Option ClockForm
clock_suffix byte = if is_letter 119 byte then Some Wall else (if is_letter 115 byte then Some Standard
    else (if is_letter 117 byte || is_letter 103 byte || is_letter 122 byte then Some Universal else None))

-- a time before this suffix, or without one by the wall clock
abbrev pub time_by : Option ClockForm → List ℕ → Option ClockTime
time_by None field = option_map (λ s. record { seconds = s; form = Wall }) (signed_seconds LATEST_TIME field)
time_by (Some form) field = option_map (λ s. record { seconds = s; form = form }) (signed_seconds LATEST_TIME (without_last field))

-- AT or the TIME of an UNTIL in seconds, at most 300 hours either way, and its clock; `-` is 0 by the wall clock
unfoldable pub clock_time_of : List ℕ → Option ClockTime
clock_time_of field = if is_dash field then Some (record { seconds = pos 0; form = Wall }) else time_by (clock_suffix (last_byte field)) field
