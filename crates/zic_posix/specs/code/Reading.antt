-- Reading a POSIX TZ string from left to right, by the grammar: each part, and the text that stands after it.
use Rattle.std.specs.Prelude.{◌≡◌, ℕ, ◌+◌, ◌*◌, ℤ, pos, neg_ℤ, ◌+ℤ◌, Bool, false, true, nat_le, nat_lt, ◌==◌, ◌&&◌, min, if◌then◌else◌, Option, Some, None, List, [], ◌∷◌, length, take, drop}
use Rattle.std.specs.List.{prefix_len}
use Rattle.zic_base.specs.Byte.{is_abbreviation_byte}
use Rattle.zic_base.specs.Number.{decimal_value}
use Rattle.zic_base.specs.Option.{◌>>=◌}
use Rattle.zic_posix.specs.declared.footer.DayRule.{DayRule}
use Rattle.zic_posix.specs.declared.footer.DayRule.TheVariants.{J, N, M}
use Rattle.zic_posix.specs.declared.footer.Dst.{Dst}
use Rattle.zic_posix.specs.declared.footer.Edge.{Edge}
use Rattle.zic_posix.specs.declared.footer.TheConstants.{SHORTEST_NAME, MAX_HOURS, MAX_WIDE_HOURS, MAX_MINUTES_OR_SECONDS, LAST_DAY, USUAL_TIME, USUAL_SAVING}
use Rattle.zic_posix.specs.Footer.{TzString}
use Rattle.std.specs.Char.{is_ascii_digit}
use Rattle.zic_posix.specs.Grammar.{is_letter}

-- a function returned what is read, apart from where it lies in memory
abbrev pub Reads : {X Y : Type 0} → (X → Y) → Option X → Option Y → Type 0
Reads view None read = read ≡ None
Reads view (Some x) read = read ≡ Some (view x)

-- the text after this byte
unfoldable pub after : ℕ → List ℕ → Option (List ℕ)
after byte [] = None
after byte (b ∷ rest) = if b == byte then Some rest else None

-- all letters at the start, three or more
unfoldable pub plain_name_at : List ℕ → Option (List ℕ × List ℕ)
plain_name_at text =
    let n = prefix_len is_letter text in
    if nat_le SHORTEST_NAME n then Some (take n text, drop n text) else None

-- all quoted bytes at the start, three or more, and a `>`
unfoldable pub quoted_name_at : List ℕ → Option (List ℕ × List ℕ)
quoted_name_at text =
    let n = prefix_len is_abbreviation_byte text in
    if nat_le SHORTEST_NAME n then (do
      rest ← after 62 (drop n text)
      Some (take n text, rest)) else None

-- a name
unfoldable pub name_at : List ℕ → Option (List ℕ × List ℕ)
name_at [] = None
name_at (b ∷ rest) = if b == 60 then quoted_name_at rest else plain_name_at (b ∷ rest)

-- a number of all the digits that stand there, but no more than the longest, if it is from the least to the most
unfoldable pub number_at : ℕ → ℕ → ℕ → List ℕ → Option (ℕ × List ℕ)
number_at longest least most text =
    let n = min (prefix_len is_ascii_digit text) longest in
    let number = decimal_value (take n text) in
    if nat_lt 0 n && nat_le least number && nat_le number most then Some (number, drop n text) else None

-- minutes or seconds after a colon, or 0 where there is no colon
unfoldable pub part_at : List ℕ → Option (ℕ × List ℕ)
part_at [] = Some (0, [])
part_at (b ∷ rest) = if b == 58 then number_at 2 0 MAX_MINUTES_OR_SECONDS rest else Some (0, b ∷ rest)

-- hours, minutes and seconds, as seconds
unfoldable pub clock_at : ℕ → ℕ → List ℕ → Option (ℕ × List ℕ)
clock_at longest most text = do
  h ← number_at longest 0 most text
  m ← part_at h.1
  s ← part_at m.1
  Some (h.0 * 3600 + m.0 * 60 + s.0, s.1)

-- whether a `-` stands there, and the text after a sign
unfoldable pub sign_at : List ℕ → Bool × List ℕ
sign_at [] = (false, [])
sign_at (b ∷ rest) = if b == 45 then (true, rest) else (if b == 43 then (false, rest) else (false, b ∷ rest))

-- a sign, or none, and hours, minutes and seconds, as seconds
unfoldable pub signed_at : ℕ → ℕ → List ℕ → Option (ℤ × List ℕ)
signed_at longest most text = do
  size ← clock_at longest most (sign_at text).1
  Some ((if (sign_at text).0 then neg_ℤ (pos size.0) else pos size.0), size.1)

-- an offset
unfoldable pub offset_at : List ℕ → Option (ℤ × List ℕ)
offset_at text = do
  west ← signed_at 2 MAX_HOURS text
  Some (neg_ℤ west.0, west.1)

-- the time of an edge, of version 2
unfoldable pub plain_time_at : List ℕ → Option (ℤ × List ℕ)
plain_time_at text = do
  size ← clock_at 2 MAX_HOURS text
  Some (pos size.0, size.1)

-- the time of an edge, of this version
unfoldable pub time_at : ℕ → List ℕ → Option (ℤ × List ℕ)
time_at version text = if version == 2 then plain_time_at text else signed_at 3 MAX_WIDE_HOURS text

-- a number of one digit after a dot
unfoldable pub digit_at : ℕ → ℕ → List ℕ → Option (ℕ × List ℕ)
digit_at least most text = do
  digit ← after 46 text
  number_at 1 least most digit

-- a weekday of a month, whose `M` has been read
unfoldable pub weekday_at : List ℕ → Option (DayRule × List ℕ)
weekday_at text = do
  month ← number_at 2 1 12 text
  week ← digit_at 1 5 month.1
  weekday ← digit_at 0 6 week.1
  Some (M month.0 week.0 weekday.0, weekday.1)

-- a day counted without 29 February, whose `J` has been read
unfoldable pub julian_at : List ℕ → Option (DayRule × List ℕ)
julian_at text = do
  day ← number_at 3 1 LAST_DAY text
  Some (J day.0, day.1)

-- a day counted with 29 February
unfoldable pub numbered_at : List ℕ → Option (DayRule × List ℕ)
numbered_at text = do
  day ← number_at 3 0 LAST_DAY text
  Some (N day.0, day.1)

-- the day of an edge
unfoldable pub day_at : List ℕ → Option (DayRule × List ℕ)
day_at [] = None
day_at (b ∷ rest) = if b == 74 then julian_at rest else (if b == 77 then weekday_at rest else numbered_at (b ∷ rest))

-- a time after a `/`, or the usual one where there is no `/`
unfoldable pub edge_time_at : ℕ → List ℕ → Option (ℤ × List ℕ)
edge_time_at version [] = Some (USUAL_TIME, [])
edge_time_at version (b ∷ rest) = if b == 47 then time_at version rest else Some (USUAL_TIME, b ∷ rest)

-- an edge
unfoldable pub edge_at : ℕ → List ℕ → Option (Edge × List ℕ)
edge_at version text = do
  day ← day_at text
  time ← edge_time_at version day.1
  Some (record { day = day.0; time = time.0 }, time.1)

-- an edge after a comma
unfoldable pub next_edge_at : ℕ → List ℕ → Option (Edge × List ℕ)
next_edge_at version text = do
  edge ← after 44 text
  edge_at version edge

-- the offset of daylight saving time: where a comma stands there, the usual one
unfoldable pub daylight_offset_at : ℤ → List ℕ → Option (ℤ × List ℕ)
daylight_offset_at standard [] = offset_at []
daylight_offset_at standard (b ∷ rest) = if b == 44 then Some (standard +ℤ USUAL_SAVING, b ∷ rest) else offset_at (b ∷ rest)

-- a daylight part
unfoldable pub daylight_at : ℕ → ℤ → List ℕ → Option (Dst × List ℕ)
daylight_at version standard text = do
  name ← name_at text
  offset ← daylight_offset_at standard name.1
  start ← next_edge_at version offset.1
  stop ← next_edge_at version start.1
  Some (record { name = name.0; offset = offset.0; start = start.0; stop = stop.0 }, stop.1)

-- the whole string
unfoldable pub string_of : ℕ → List ℕ → Option TzString
string_of version text = do
  std ← name_at text
  offset ← offset_at std.1
  if length offset.1 == 0 then Some (record { std = std.0; offset = offset.0; dst = None }) else (do
    dst ← daylight_at version offset.0 offset.1
    if length dst.1 == 0 then Some (record { std = std.0; offset = offset.0; dst = Some dst.0 }) else None)
