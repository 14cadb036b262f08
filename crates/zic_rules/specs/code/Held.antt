-- Lines and rules that hold from one period to the next.
use Rattle.std.specs.Prelude.{◌≡◌, ℕ, zero, suc, ℤ, ◌<ℤ◌, ◌≤ℤ◌, List, [], ◌∷◌, Option, Some, None}
use Rattle.zic_states.specs.Zone.{Zone, Ends}
use Rattle.zic_rules.specs.declared.line.Period.{Period}
use Rattle.zic_rules.specs.code.Period.{Holds}

-- at this instant or later; with none, at every instant
abbrev pub IsFrom : Option ℤ → ℤ → Type 0
IsFrom None t = Unit {0}
IsFrom (Some start) t = start ≤ℤ t

-- later than this instant; with none, at every instant
abbrev pub ComesAfter : Option ℤ → ℤ → Type 0
ComesAfter None t = Unit {0}
ComesAfter (Some start) t = start <ℤ t

-- From `start` to the first period the line of this number holds by this rule, from each period to the next that period's line by
-- its rule, and from the last up to the end.
unfoldable pub AreHeld : Zone → ℤ → Option ℤ → ℕ → Option ℕ → List Period → Type 0
AreHeld zone end start number rule [] = (t : ℤ) → IsFrom start t → t <ℤ end → Holds zone t number rule
AreHeld zone end start number rule (s ∷ ss) =
    ComesAfter start s.from × (s.from <ℤ end)
    × ((t : ℤ) → IsFrom start t → t <ℤ s.from → Holds zone t number rule)
    × AreHeld zone end (Some s.from) s.line s.rule ss

-- the line of the last period, and with no period this one
abbrev pub last_line : ℕ → List Period → ℕ
last_line number [] = number
last_line number (s ∷ ss) = last_line s.line ss

-- the rule of the last period, and with no period this one
abbrev pub last_rule : Option ℕ → List Period → Option ℕ
last_rule rule [] = rule
last_rule rule (s ∷ ss) = last_rule s.rule ss

-- The line of this number ends at the instant, and these are the zone's periods up to it.
pub record HeldTo (zone : Zone) (i : ℕ) (end : ℤ) (periods : List Period) : Type 0 where
  pub held : AreHeld zone end None 0 None periods
  pub last : last_line 0 periods ≡ i

-- the periods of the lines before this one, up to its start; the Zone line has none
abbrev pub AreSoFar : Zone → ℕ → Option ℤ → List Period → Type 0
AreSoFar zone zero None periods = periods ≡ []
AreSoFar zone zero (Some start) periods = ⊥
AreSoFar zone (suc i) None periods = ⊥
AreSoFar zone (suc i) (Some start) periods = Ends zone i start × HeldTo zone i start periods
