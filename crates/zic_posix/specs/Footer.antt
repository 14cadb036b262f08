-- The content of a POSIX TZ string: POSIX.1, "Environment Variables", TZ; RFC 9636, 3.3.
use Rattle.std.specs.Prelude.{ℕ, ℤ, pos, Bool, ◌&&◌, int_le, if◌then◌else◌, List, Option, Some, None}
use Rattle.zic_posix.specs.declared.footer.Dst.{Dst}
use Rattle.zic_posix.specs.declared.footer.Edge.{Edge}

-- standard time's abbreviation and UT offset in seconds, positive east; and daylight saving time, if there is one
pub record TzString : Type 0 where
  pub std : List ℕ
  pub offset : ℤ
  pub dst : Option Dst

-- standard time for ever
abbrev pub constant : List ℕ → ℤ → TzString
constant std offset = record { std = std; offset = offset; dst = None }

-- the time is from 00:00:00 to 24:00:00
abbrev pub is_of_day : Edge → Bool
is_of_day edge = int_le (pos 0) edge.time && int_le edge.time (pos 86_400)

-- 2 where there is no daylight part, or both its times lie in 0 to 24:00:00; else 3
abbrev pub version_by : Option Dst → ℕ
version_by None = 2
version_by (Some dst) = if is_of_day dst.start && is_of_day dst.stop then 2 else 3

-- the version of TZif that the string needs. Own choice: a time after 24:00:00 needs 3, although the grammar of version 2 goes to 24:59:59
abbrev pub version_of : TzString → ℕ
version_of f = version_by f.dst
