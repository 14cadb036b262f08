-- The changes of local time that a file answers.
use Rattle.std.specs.Prelude.{◌≢◌, ℤ, pos, ◌-ℤ◌, ◌+ℤ◌, ◌<ℤ◌, ◌≤ℤ◌, unsigned_abs, codes, false, List, [], ◌∷◌, Option, Some, None}
use Rattle.std.specs.Int.{int_div_euclid, int_rem_euclid}
use Rattle.zic_base.specs.State.{Shown}
use Rattle.zic_calendar.specs.declared.civil_time.Civil.{Civil}
use Rattle.zic_calendar.specs.Civil.{IsOnDay, IsAtSecond}
use Rattle.zic_tzif.specs.Content.{Content}
use Rattle.zic_tzif.specs.Answer.{Answers}

-- a change: its instant, what is answered from then on, and local time right after it
pub record Change : Type 0 where
  pub instant : ℤ
  pub answer : Option Shown
  pub local : Civil

-- The state that is shown for an answer. Local time that a file leaves open is shown as the
-- placeholder `-00` at UT: zdump(8), RFC 9636, 3.2.
abbrev pub shown_for : Option Shown → Shown
shown_for (Some state) = state
shown_for None = record { offset = pos 0; daylight = false; name = codes "-00" }

-- this is local time of a state at an instant
pub record IsLocalAt (instant : ℤ) (s : Shown) (local : Civil) : Type 0 where
  pub date : IsOnDay (int_div_euclid (instant +ℤ s.offset) (pos 86_400)) local
  pub time : IsAtSecond (unsigned_abs (int_rem_euclid (instant +ℤ s.offset) (pos 86_400))) local

-- the change has the local time of its instant
abbrev pub HasLocalTime : Change → Type 0
HasLocalTime c = IsLocalAt c.instant (shown_for c.answer) c.local

-- the answer at the instant isn't that of a second before
pub record ChangesAt (content : Content) (t : ℤ) : Type 0 where
  pub before : Option Shown
  pub after : Option Shown
  pub is_before : Answers content (t -ℤ pos 1) before
  pub is_after : Answers content t after
  pub differ : before ≢ after

-- no change after one instant and up to another
abbrev pub StaysSame : Content → ℤ → ℤ → Type 0
StaysSame content first last = (t : ℤ) → first <ℤ t → t ≤ℤ last → ChangesAt content t → ⊥

-- the first change after one instant, and not after another
pub record IsNext (content : Content) (first last : ℤ) (c : Change) : Type 0 where
  pub later : first <ℤ c.instant
  pub within : c.instant ≤ℤ last
  pub none_before : StaysSame content first (c.instant -ℤ pos 1)
  pub changes : ChangesAt content c.instant
  pub answers : Answers content c.instant c.answer
  pub local : HasLocalTime c

-- just the changes after one instant and up to another, in order
abbrev pub AreChanges : Content → ℤ → ℤ → List Change → Type 0
AreChanges content first last [] = StaysSame content first last
AreChanges content first last (c ∷ cs) = IsNext content first last c × AreChanges content c.instant last cs
