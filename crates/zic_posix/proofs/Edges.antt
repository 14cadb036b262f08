-- The instants of edges: near their years, rising with the years, and repeating every 400 years.
use Rattle.std.proofs.Common.{◌≡◌, ◌*◌, ◌<◌, ◌≤◌, inl, inr, Option, Some, refl, subst, arith, ℤ, pos, neg_ℤ, ◌+ℤ◌, ◌-ℤ◌, ◌*ℤ◌, ◌<ℤ◌, ◌≤ℤ◌, unsigned_abs}
use Rattle.std.specs.Option.{MatchOption}
use Rattle.std.proofs.lemmas.Int.{ints, by_lt_z}
use Rattle.zic_base.specs.declared.constants.TheConstants.{FARTHEST_FILE_OFFSET}
use Rattle.zic_calendar.specs.Calendar.{day_number}
use Rattle.zic_posix.specs.declared.footer.Dst.{Dst}
use Rattle.zic_posix.specs.declared.footer.Edge.{Edge}
use Rattle.zic_posix.specs.Footer.{TzString}
use Rattle.zic_posix.specs.Grammar.{IsEdge, IsOffset, IsDaylight, IsTzString}
use Rattle.zic_posix.specs.Meaning.{day_in}
use Rattle.zic_posix.specs.Laws.{year_second, IsNearYear}
use Rattle.zic_posix.specs.code.State.{instant_in}
use Rattle.zic_posix.proofs.Days.{day_in-from, day_in-to, day_in-rises, day_in-period, year_days}

-- ---- limits

-- the daylight part keeps the limits
pub daylight_is : (f : TzString) (dst : Dst) → IsTzString f → f.dst ≡ Some dst → IsDaylight f.offset dst
daylight_is f dst is e = subst (λ (o : Option Dst). MatchOption o (Unit {0}) (IsDaylight f.offset)) e is.dst

-- an offset lies within 25:59:59
pub offset_within : (offset : ℤ) → IsOffset offset → unsigned_abs offset ≤ FARTHEST_FILE_OFFSET
offset_within offset is = omega arith

pub daylight_within : (standard : ℤ) (dst : Dst) → IsOffset standard → IsDaylight standard dst → unsigned_abs dst.offset ≤ FARTHEST_FILE_OFFSET
daylight_within standard dst is daylight =
    elim daylight.offset [
      | inl usual ↦ omega (arith, ints)
      | inr named ↦ offset_within dst.offset named
    ]

-- ---- seconds

second_rises : (day later time offset : ℤ) → day <ℤ later → (((pos 86_400 *ℤ day) +ℤ time) -ℤ offset) <ℤ (((pos 86_400 *ℤ later) +ℤ time) -ℤ offset)
second_rises day later time offset h = omega (arith, ints)

second_from : (first day time offset : ℤ) → first ≤ℤ day → unsigned_abs time < 604_800 → unsigned_abs offset ≤ 93_599 → (pos 86_400 *ℤ first) <ℤ ((((pos 86_400 *ℤ day) +ℤ time) -ℤ offset) +ℤ pos (10 * 86_400))
second_from first day time offset h small near = omega (arith, ints)

second_to : (next day time offset : ℤ) → day ≤ℤ next → unsigned_abs time < 604_800 → unsigned_abs offset ≤ 93_599 → (((pos 86_400 *ℤ day) +ℤ time) -ℤ offset) <ℤ ((pos 86_400 *ℤ next) +ℤ pos (10 * 86_400))
second_to next day time offset h small near = omega (arith, ints)

second_moves : (day later time offset : ℤ) → later ≡ day +ℤ pos 146_097 → ((pos 86_400 *ℤ later) +ℤ time) -ℤ offset ≡ (((pos 86_400 *ℤ day) +ℤ time) -ℤ offset) +ℤ pos (146_097 * 86_400)
second_moves day later time offset h = omega (arith, ints)

days_apart : (day later : ℤ) → (day +ℤ pos 365) ≤ℤ later → ((pos 86_400 *ℤ day) +ℤ pos (365 * 86_400)) ≤ℤ (pos 86_400 *ℤ later)
days_apart day later h = omega (arith, ints)

-- a year has at least 365 days
pub years_apart : (y next : ℤ) → next ≡ y +ℤ pos 1 → (year_second y +ℤ pos (365 * 86_400)) ≤ℤ year_second next
years_apart y next e = days_apart (day_number y 1 1) (day_number next 1 1) (year_days y next e)

-- ---- instants

-- an edge's instant lies less than 10 days outside its year
pub instant_in-near : (edge : Edge) (offset y : ℤ) → IsEdge edge → unsigned_abs offset ≤ FARTHEST_FILE_OFFSET → IsNearYear y (instant_in edge offset y)
instant_in-near edge offset y is near =
    record {
      from = second_from (day_number y 1 1) (day_in y edge.day) edge.time offset (day_in-from y edge.day is.day) is.time near;
      to = second_to (day_number (y +ℤ pos 1) 1 1) (day_in y edge.day) edge.time offset (day_in-to y (y +ℤ pos 1) edge.day refl is.day) is.time near;
    }

-- and rises with the year
pub instant_in-rises : (edge : Edge) (offset a b : ℤ) → IsEdge edge → a <ℤ b → instant_in edge offset a <ℤ instant_in edge offset b
instant_in-rises edge offset a b is h =
    second_rises (day_in a edge.day) (day_in b edge.day) edge.time offset (day_in-rises a b edge.day is.day h)

pub instant_in-no_later : (edge : Edge) (offset a b : ℤ) → IsEdge edge → a ≤ℤ b → instant_in edge offset a ≤ℤ instant_in edge offset b
instant_in-no_later edge offset a b is h =
    by_lt_z a b
    (λ lt. omega (arith, ints, instant_in-rises edge offset a b is lt))
    (λ ge. let same : a ≡ b = omega (arith, ints) in rw same (omega (arith, ints)))

-- so many years move each edge's instant by so many seconds
pub record IsShift (years seconds : ℤ) : Type 0 where
  pub moves : (edge : Edge) (offset y later : ℤ) → later ≡ y +ℤ years → instant_in edge offset later ≡ instant_in edge offset y +ℤ seconds

pub later_shift : IsShift (pos 400) (pos (146_097 * 86_400))
later_shift = record { moves = λ edge offset y later e. second_moves (day_in y edge.day) (day_in later edge.day) edge.time offset (day_in-period y later edge.day e) }

pub sooner_shift : IsShift (neg_ℤ (pos 400)) (neg_ℤ (pos (146_097 * 86_400)))
sooner_shift = record { moves = λ edge offset y later e. omega (arith, ints, later_shift.moves edge offset later y (omega (arith, ints))) }
