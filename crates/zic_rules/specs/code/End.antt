-- The explicit end, by the last line and its start.
use Rattle.std.specs.Prelude.{◌≡◌, ℕ, zero, suc, max, ◌*◌, ℤ, pos, ◌+ℤ◌, ◌<ℤ◌, ◌≤ℤ◌, Option, Some, None, IfSome}
use Rattle.zic_lines.specs.declared.rules.Rules.{Rules}
use Rattle.zic_lines.specs.declared.rules.Rules.TheVariants.{Standard, Amount, Set}
use Rattle.zic_lines.specs.declared.zone_line.ZoneLine.{ZoneLine}
use Rattle.zic_states.specs.Occurrence.{RuleSet, year_second}
use Rattle.zic_states.specs.Listing.{IsLastNamed}
use Rattle.zic_states.specs.End.{IsYearOf, IsEndBy}
use Rattle.zic_states.specs.Zone.{Zone, Ends}

-- the line of this number starts at this instant; the Zone line has no start
abbrev pub IsStart : Zone → ℕ → Option ℤ → Type 0
IsStart zone zero None = Unit {0}
IsStart zone zero (Some start) = ⊥
IsStart zone (suc i) None = ⊥
IsStart zone (suc i) (Some start) = Ends zone i start

-- from the year 0 to this year
abbrev pub IsInYears : ℕ → ℤ → Type 0
IsInYears year t = (year_second (pos 0) ≤ℤ t) × (t <ℤ year_second (pos year))

-- the last year that the set names, or in which its line starts
abbrev pub IsLastYearFrom : RuleSet → Option ℤ → ℕ → Type 0
IsLastYearFrom set None year = IsLastNamed set year
IsLastYearFrom set (Some start) year =
    (named : ℕ) × IsLastNamed set named × (of_start : ℕ) × IsYearOf start (pos of_start) × (year ≡ max named of_start)

-- where RULES name a set, the end comes more than five days after the start; else it comes after the start
abbrev pub IsEndAfter : Rules → ℤ → ℤ → Type 0
IsEndAfter Standard start end = start <ℤ end
IsEndAfter (Amount saving) start end = start <ℤ end
IsEndAfter (Set name) start end = (start +ℤ pos (5 * 86_400)) <ℤ end

-- the end of this last line, which starts so
pub record IsEndFrom (zone : Zone) (number : ℕ) (start : Option ℤ) (line : ZoneLine) (end : ℤ) : Type 0 where
  pub is : IsEndBy zone number line.rules end
  pub in_years : IsInYears 9900 end
  pub after : IfSome start (λ s. IsEndAfter line.rules s end)
