-- The one way in which a POSIX TZ string is printed. Own choice.
use Rattle.std.specs.Prelude.{ℕ, ◌+◌, ◌/◌, ◌%◌, ◌&&◌, ◌==◌, nat_lt, if◌then◌else◌, int_lt, unsigned_abs, ℤ, pos, neg_ℤ, ◌+ℤ◌, Option, Some, None, List, [], ◌∷◌, ◌++◌}
use Rattle.std.specs.List.{list_all}
use Rattle.std.specs.Ordering.{int_eq}
use Rattle.zic_base.specs.Digits.{two_digits}
use Rattle.zic_posix.specs.declared.footer.DayRule.{DayRule}
use Rattle.zic_posix.specs.declared.footer.DayRule.TheVariants.{J, N, M}
use Rattle.zic_posix.specs.declared.footer.Dst.{Dst}
use Rattle.zic_posix.specs.declared.footer.Edge.{Edge}
use Rattle.zic_posix.specs.declared.footer.TheConstants.{USUAL_TIME, USUAL_SAVING}
use Rattle.zic_posix.specs.Footer.{TzString}
use Rattle.zic_posix.specs.Grammar.{is_letter}

-- `<` and `>` only round a name that isn't all letters
abbrev pub printed_name : List ℕ → List ℕ
printed_name name = if list_all is_letter name then name else 60 ∷ (name ++ 62 ∷ [])

-- a number below 1000 without leading zeros
abbrev pub printed_number : ℕ → List ℕ
printed_number n =
    if nat_lt n 10 then (48 + n) ∷ [] else (if nat_lt n 100 then two_digits n else (48 + n / 100) ∷ two_digits (n % 100))

-- seconds only where there are some, minutes only where there are some or seconds
abbrev pub printed_clock : ℕ → ℕ → ℕ → List ℕ
printed_clock h m s =
    printed_number h ++ (if (m == 0) && (s == 0) then [] else (58 ∷ two_digits m) ++ (if s == 0 then [] else 58 ∷ two_digits s))

-- n seconds, as hours, minutes and seconds
abbrev pub printed_seconds : ℕ → List ℕ
printed_seconds n = printed_clock (n / 3600) (n / 60 % 60) (n % 60)

-- a `-` only below 0
abbrev pub printed_signed : ℤ → List ℕ
printed_signed seconds = (if int_lt seconds (pos 0) then 45 ∷ [] else []) ++ printed_seconds (unsigned_abs seconds)

-- an offset counts west of Greenwich
abbrev pub printed_offset : ℤ → List ℕ
printed_offset offset = printed_signed (neg_ℤ offset)

-- the day of an edge
abbrev pub printed_day : DayRule → List ℕ
printed_day (J day) = 74 ∷ printed_number day
printed_day (N day) = printed_number day
printed_day (M month week weekday) =
    77 ∷ (printed_number month ++ 46 ∷ (printed_number week ++ 46 ∷ printed_number weekday))

-- the time only where it isn't 02:00:00
abbrev pub printed_edge : Edge → List ℕ
printed_edge edge = printed_day edge.day ++ (if int_eq edge.time USUAL_TIME then [] else 47 ∷ printed_signed edge.time)

-- the offset of daylight saving time only where it isn't one hour ahead of standard time
abbrev pub printed_saving : ℤ → ℤ → List ℕ
printed_saving standard offset = if int_eq offset (standard +ℤ USUAL_SAVING) then [] else printed_offset offset

-- a daylight part
abbrev pub printed_daylight : ℤ → Dst → List ℕ
printed_daylight standard dst =
    printed_name dst.name ++ printed_saving standard dst.offset ++ 44 ∷ (printed_edge dst.start ++ 44 ∷ printed_edge dst.stop)

-- the daylight part where there is one
abbrev pub printed_rest : ℤ → Option Dst → List ℕ
printed_rest standard None = []
printed_rest standard (Some dst) = printed_daylight standard dst

-- the whole string
abbrev pub printed : TzString → List ℕ
printed f = printed_name f.std ++ printed_offset f.offset ++ printed_rest f.offset f.dst
