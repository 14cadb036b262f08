-- The changes of a zone before its explicit end.
use Rattle.std.specs.Prelude.{◌≡◌, ◌≢◌, ℤ, pos, ◌-ℤ◌, ◌<ℤ◌, ◌≤ℤ◌, List, All, Any, AllPairs}
use Rattle.zic_states.specs.End.{IsEnd}
use Rattle.zic_base.specs.State.{Shown}
use Rattle.zic_states.specs.Zone.{Zone, Shows}

-- an instant, and what the zone shows from it on
pub record Change : Type 0 where
  pub instant : ℤ
  pub state : Shown

-- an instant before the explicit end at which the zone shows another state than one second earlier
pub record IsChange (zone : Zone) (t : ℤ) : Type 0 where
  pub end : ℤ
  pub is_end : IsEnd zone end
  pub before_end : t <ℤ end
  pub state : Shown
  pub earlier : Shown
  pub shows : Shows zone t state
  pub showed : Shows zone (t -ℤ pos 1) earlier
  pub differs : state ≢ earlier

-- all changes of the zone, in the order of time
pub record AreChanges (zone : Zone) (changes : List Change) : Type 0 where
  pub rising : AllPairs (λ a b. a.instant <ℤ b.instant) changes
  pub each : All (λ c. IsChange zone c.instant × Shows zone c.instant c.state) changes
  pub all : (t : ℤ) → IsChange zone t → Any (λ c. c.instant ≡ t) changes

-- every change comes after the instant
abbrev pub IsBeforeChanges : Zone → ℤ → Type 0
IsBeforeChanges zone t = (u : ℤ) → IsChange zone u → t <ℤ u

-- no change comes after the instant
abbrev pub IsAfterChanges : Zone → ℤ → Type 0
IsAfterChanges zone t = (u : ℤ) → IsChange zone u → u ≤ℤ t

-- the state that the zone shows before every change
abbrev pub IsFirstState : Zone → Shown → Type 0
IsFirstState zone state = (end t : ℤ) → IsEnd zone end → t <ℤ end → IsBeforeChanges zone t → Shows zone t state
