-- The explicit end of a zone: its file lists the changes before it. Own choice.
use Rattle.std.specs.Prelude.{◌≡◌, ℕ, zero, suc, ℤ, pos, ◌+ℤ◌, ◌<ℤ◌, ◌≤ℤ◌, Some, None, List}
use Rattle.std.specs.Int.{int_max}
use Rattle.zic_lines.specs.declared.rules.Rules.{Rules}
use Rattle.zic_lines.specs.declared.rules.Rules.TheVariants.{Standard, Amount, Set}
use Rattle.zic_lines.specs.declared.zone_line.ZoneLine.{ZoneLine}
use Rattle.zic_states.specs.Occurrence.{year_second}
use Rattle.zic_states.specs.Listing.{IsLastNamed}
use Rattle.zic_states.specs.Until.{set_of}
use Rattle.zic_states.specs.Zone.{Zone, line_at, Ends}

-- the line of this number is the last: it has no UNTIL
pub record IsLastLine (zone : Zone) (i : ℕ) (line : ZoneLine) : Type 0 where
  pub is_line : line_at zone i ≡ Some line
  pub no_until : line.until ≡ None

-- the UT year in which the instant lies
pub record IsYearOf (t : ℤ) (year : ℤ) : Type 0 where
  pub begun : year_second year ≤ℤ t
  pub not_over : t <ℤ year_second (year +ℤ pos 1)

-- the last year that the last line, of this number, names: of the years of its set and the UT year of its start, the greatest
abbrev pub IsLastYear : Zone → ℕ → List ℕ → ℤ → Type 0
IsLastYear zone zero name year = (named : ℕ) × IsLastNamed (set_of zone.source.rules name) named × (year ≡ pos named)
IsLastYear zone (suc i) name year =
    (named : ℕ) × IsLastNamed (set_of zone.source.rules name) named
    × (start : ℤ) × Ends zone i start × (of_start : ℤ) × IsYearOf start of_start × (year ≡ int_max (pos named) of_start)

-- where the last line has no set: one second after its start, and the epoch if it is the only line
abbrev pub IsEndOfFixed : Zone → ℕ → ℤ → Type 0
IsEndOfFixed zone zero end = end ≡ pos 0
IsEndOfFixed zone (suc i) end = (start : ℤ) × Ends zone i start × (end ≡ start +ℤ pos 1)

-- where it has a set: 1 January, 00:00 UT, three years after the last year that is named
abbrev pub IsEndBy : Zone → ℕ → Rules → ℤ → Type 0
IsEndBy zone i Standard end = IsEndOfFixed zone i end
IsEndBy zone i (Amount saving) end = IsEndOfFixed zone i end
IsEndBy zone i (Set name) end = (year : ℤ) × IsLastYear zone i name year × (end ≡ year_second (year +ℤ pos 3))

-- the explicit end
abbrev pub IsEnd : Zone → ℤ → Type 0
IsEnd zone end = (i : ℕ) × (line : ZoneLine) × IsLastLine zone i line × IsEndBy zone i line.rules end
