-- The grammar of POSIX TZ strings: POSIX.1-2017, TZ; RFC 9636, 3.3.1, for the wider times of version 3. Own choices: how many digits a
-- number may have (hours, minutes, seconds and a month two, hours of version 3 and a day three, week and weekday one), and that a
-- daylight part without edges is refused, since POSIX leaves its meaning open.
use Rattle.std.specs.Prelude.{◌≡◌, ℕ, ◌+◌, ◌*◌, ◌<◌, ◌≤◌, ℤ, pos, neg_ℤ, ◌+ℤ◌, Bool, ◌||◌, ◌&&◌, nat_le, List, [], ◌∷◌, ◌++◌, ◌⊎◌, Some, length, unsigned_abs, IsTrue, All}
use Rattle.std.specs.Option.{MatchOption}
use Rattle.zic_base.specs.Byte.{is_abbreviation_byte}
use Rattle.zic_base.specs.Number.{number}
use Rattle.zic_posix.specs.declared.footer.DayRule.{DayRule}
use Rattle.zic_posix.specs.declared.footer.DayRule.TheVariants.{J, N, M}
use Rattle.zic_posix.specs.declared.footer.Dst.{Dst}
use Rattle.zic_posix.specs.declared.footer.Edge.{Edge}
use Rattle.zic_posix.specs.declared.footer.TheConstants.{SHORTEST_NAME, MAX_HOURS, MAX_WIDE_HOURS, MAX_MINUTES_OR_SECONDS, LAST_DAY, USUAL_TIME, USUAL_SAVING}
use Rattle.zic_posix.specs.Footer.{TzString, version_of}

-- an ASCII letter
abbrev pub is_letter : ℕ → Bool
is_letter b = (nat_le 65 b && nat_le b 90) || (nat_le 97 b && nat_le b 122)

-- a name: three letters or more, or three or more letters, digits, `+` and `-` between `<` and `>`. POSIX TZ
pub record SpellsName (text name : List ℕ) : Type 0 where
  pub long : SHORTEST_NAME ≤ length name
  pub form : ((text ≡ name) × All (λ b. IsTrue (is_letter b)) name)
      ⊎ ((text ≡ 60 ∷ (name ++ 62 ∷ [])) × All (λ b. IsTrue (is_abbreviation_byte b)) name)

-- from one to `longest` digits for a number from `least` to `most`. POSIX TZ
pub record SpellsNumber (longest least most : ℕ) (text : List ℕ) (n : ℕ) : Type 0 where
  pub value : number longest text ≡ Some n
  pub at_least : least ≤ n
  pub at_most : n ≤ most

-- minutes, or seconds
abbrev pub SpellsPart : List ℕ → ℕ → Type 0
SpellsPart text n = SpellsNumber 2 0 MAX_MINUTES_OR_SECONDS text n

-- hours of up to `longest` digits from 0 to `most`, and perhaps minutes, and perhaps seconds, after colons: `seconds` in all. POSIX TZ
pub record SpellsClock (longest most : ℕ) (text : List ℕ) (seconds : ℕ) : Type 0 where
  pub hours : List ℕ
  pub h : ℕ
  pub m : ℕ
  pub s : ℕ
  pub spells_hours : SpellsNumber longest 0 most hours h
  pub form : ((text ≡ hours) × (m ≡ 0) × (s ≡ 0))
      ⊎ ((minutes : List ℕ) × (text ≡ hours ++ 58 ∷ minutes) × SpellsPart minutes m × (s ≡ 0))
      ⊎ ((minutes secs : List ℕ) × (text ≡ hours ++ 58 ∷ (minutes ++ 58 ∷ secs)) × SpellsPart minutes m × SpellsPart secs s)
  pub value : seconds ≡ h * 3600 + m * 60 + s

-- the same with a sign, or with none
pub record SpellsSigned (longest most : ℕ) (text : List ℕ) (seconds : ℤ) : Type 0 where
  pub clock : List ℕ
  pub size : ℕ
  pub spells_clock : SpellsClock longest most clock size
  pub form : ((text ≡ clock) × (seconds ≡ pos size))
      ⊎ ((text ≡ 43 ∷ clock) × (seconds ≡ pos size))
      ⊎ ((text ≡ 45 ∷ clock) × (seconds ≡ neg_ℤ (pos size)))

-- An offset counts west of Greenwich. POSIX TZ
abbrev pub SpellsOffset : List ℕ → ℤ → Type 0
SpellsOffset text offset = (west : ℤ) × SpellsSigned 2 MAX_HOURS text west × (offset ≡ neg_ℤ west)

-- the time of an edge: POSIX TZ; in version 3 it may have a sign and up to 167 hours: RFC 9636, 3.3.1
abbrev pub SpellsTime : ℕ → List ℕ → ℤ → Type 0
SpellsTime version text time =
    ((version ≡ 2) × ((size : ℕ) × SpellsClock 2 MAX_HOURS text size × (time ≡ pos size)))
    ⊎ ((version ≡ 3) × SpellsSigned 3 MAX_WIDE_HOURS text time)

-- the day of an edge: `Jn`, `n`, or `Mm.w.d`. POSIX TZ
abbrev pub SpellsDay : List ℕ → DayRule → Type 0
SpellsDay text (J day) = (digits : List ℕ) × (text ≡ 74 ∷ digits) × SpellsNumber 3 1 LAST_DAY digits day
SpellsDay text (N day) = SpellsNumber 3 0 LAST_DAY text day
SpellsDay text (M month week weekday) =
    (months weeks weekdays : List ℕ) × (text ≡ 77 ∷ (months ++ 46 ∷ (weeks ++ 46 ∷ weekdays)))
    × SpellsNumber 2 1 12 months month × SpellsNumber 1 1 5 weeks week × SpellsNumber 1 0 6 weekdays weekday

-- an edge: a day, and perhaps a time after a `/`; without it the time is 02:00:00. POSIX TZ
pub record SpellsEdge (version : ℕ) (text : List ℕ) (edge : Edge) : Type 0 where
  pub day : List ℕ
  pub spells_day : SpellsDay day edge.day
  pub form : ((text ≡ day) × (edge.time ≡ USUAL_TIME))
      ⊎ ((time : List ℕ) × (text ≡ day ++ 47 ∷ time) × SpellsTime version time edge.time)

-- a daylight part: a name, perhaps an offset, and two edges after commas; without an offset it is one hour ahead of standard time.
-- POSIX TZ
pub record SpellsDaylight (version : ℕ) (standard : ℤ) (text : List ℕ) (dst : Dst) : Type 0 where
  pub name : List ℕ
  pub offset : List ℕ
  pub start : List ℕ
  pub stop : List ℕ
  pub parts : text ≡ name ++ (offset ++ 44 ∷ (start ++ 44 ∷ stop))
  pub spells_name : SpellsName name dst.name
  pub spells_offset : ((offset ≡ []) × (dst.offset ≡ standard +ℤ USUAL_SAVING)) ⊎ SpellsOffset offset dst.offset
  pub spells_start : SpellsEdge version start dst.start
  pub spells_stop : SpellsEdge version stop dst.stop

-- The text of this version of TZif, 2 or 3, is the string's: a name, an offset, and perhaps a daylight part. RFC 9636, 3.3.1
pub record Spells (version : ℕ) (text : List ℕ) (f : TzString) : Type 0 where
  pub name : List ℕ
  pub offset : List ℕ
  pub rest : List ℕ
  pub known : (version ≡ 2) ⊎ (version ≡ 3)
  pub parts : text ≡ name ++ (offset ++ rest)
  pub spells_name : SpellsName name f.std
  pub spells_offset : SpellsOffset offset f.offset
  pub spells_rest : MatchOption f.dst (rest ≡ []) (SpellsDaylight version f.offset rest)

-- a name that some text spells
pub record IsName (name : List ℕ) : Type 0 where
  pub long : SHORTEST_NAME ≤ length name
  pub bytes : All (λ b. IsTrue (is_abbreviation_byte b)) name

-- an offset that some text spells: within 24:59:59
abbrev pub IsOffset : ℤ → Type 0
IsOffset offset = unsigned_abs offset < (MAX_HOURS + 1) * 3600

-- a day that some text spells
abbrev pub IsDay : DayRule → Type 0
IsDay (J day) = (1 ≤ day) × (day ≤ LAST_DAY)
IsDay (N day) = day ≤ LAST_DAY
IsDay (M month week weekday) = (1 ≤ month) × (month ≤ 12) × (1 ≤ week) × (week ≤ 5) × (weekday ≤ 6)

-- an edge that some text of version 3 spells: its time is within 167:59:59
pub record IsEdge (edge : Edge) : Type 0 where
  pub day : IsDay edge.day
  pub time : unsigned_abs edge.time < (MAX_WIDE_HOURS + 1) * 3600

-- a daylight part that some text of version 3 spells
pub record IsDaylight (standard : ℤ) (dst : Dst) : Type 0 where
  pub name : IsName dst.name
  pub offset : (dst.offset ≡ standard +ℤ USUAL_SAVING) ⊎ IsOffset dst.offset
  pub start : IsEdge dst.start
  pub stop : IsEdge dst.stop

-- some text of version 3 spells this
pub record IsTzString (f : TzString) : Type 0 where
  pub std : IsName f.std
  pub offset : IsOffset f.offset
  pub dst : MatchOption f.dst (Unit {0}) (IsDaylight f.offset)

-- a text spells at most one string
abbrev pub SpellsAtMostOne : Type 0
SpellsAtMostOne = (version : ℕ) (text : List ℕ) (f g : TzString) → Spells version text f → Spells version text g → f ≡ g

-- some text spells each string that keeps the limits, for the version that it needs
abbrev pub SomeTextSpells : Type 0
SomeTextSpells = (f : TzString) → IsTzString f → (text : List ℕ) × Spells (version_of f) text f

-- what a text spells keeps the limits, and in version 3 a text spells what it spells in version 2
pub record SpellsWithinLimits : Type 0 where
  pub limits : (version : ℕ) (text : List ℕ) (f : TzString) → Spells version text f → IsTzString f
  pub wider : (text : List ℕ) (f : TzString) → Spells 2 text f → Spells 3 text f
