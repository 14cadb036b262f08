-- What the call on the date and the time of day returns. Own choice.
use Rattle.std.specs.Prelude.{ℤ, Option}
use Rattle.zic_base.specs.State.{Shown}
use Rattle.zic_calendar.specs.declared.civil_time.Civil.{Civil}
use Rattle.zic_dump.specs.Changes.{IsLocalAt}
use Rattle.zic_tzif.specs.Content.{Content}
use Rattle.zic_tzif.specs.Answer.{Answers}
use Rattle.pzic_zones.specs.State.{state_of}
use Rattle.pzic_zones.specs.Zone.{IsAnswer}
use Rattle.pzic_zones.specs.declared.civil_time.CivilTime.{CivilTime}

-- the date and the time of day of C's fields
abbrev pub civil_of : CivilTime → Civil
civil_of c = record { year = c.year; month = c.month; day = c.day; hour = c.hour; minute = c.minute; second = c.second }

-- The status and the state are those of the answer, and the date and the time of day are local time of it at the instant; where local time is left
-- open they are universal time.
pub record IsCivilTime (t : ℤ) (answer : Option Shown) (status : ℤ) (civil : CivilTime) : Type 0 where
  pub reported : IsAnswer answer status civil.state
  pub local : IsLocalAt t (state_of answer) (civil_of civil)

-- They are what the file of this content answers at an instant.
abbrev pub IsCivilTimeAt : Content → ℤ → ℤ → CivilTime → Type 0
IsCivilTimeAt content t status civil = (answer : Option Shown) × Answers content t answer × IsCivilTime t answer status civil
