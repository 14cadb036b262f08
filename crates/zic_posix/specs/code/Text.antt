-- Strings whose names lie in their text.
use Rattle.std.specs.Prelude.{Option, Some, None}
use Rattle.zic_posix.specs.declared.footer.Dst.{Dst}
use Rattle.zic_posix.specs.declared.reader.DstText.{DstText}
use Rattle.zic_posix.specs.declared.reader.TzText.{TzText}
use Rattle.zic_posix.specs.Footer.{TzString}

-- a daylight part without where its name lies in memory
abbrev pub daylight : DstText → Dst
daylight dst = record { name = dst.name.now; offset = dst.offset; start = dst.start; stop = dst.stop }

-- the same where there is one
abbrev pub daylights : Option DstText → Option Dst
daylights None = None
daylights (Some dst) = Some (daylight dst)

-- a string without where its names lie in memory
abbrev pub string : TzText → TzString
string text = record { std = text.std.now; offset = text.offset; dst = daylights text.dst }
