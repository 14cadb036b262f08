-- The instants of changes: those of the years from 0 to 9900.
use Rattle.std.proofs.Common.{◌≡◌, ℕ, zero, suc, List, Option, Some, None, FitsSigned, w64, inl, inr, arith}
use Rattle.std.specs.Prelude.{ℤ, pos, ◌+ℤ◌, ◌-ℤ◌, ◌<ℤ◌, ◌≤ℤ◌}
use Rattle.std.specs.Option.{MatchOption}
use Rattle.std.proofs.lemmas.Int.{ints, by_lt_z, clamps}
use Rattle.zic_lines.specs.declared.rules.Rules.{Rules}
use Rattle.zic_lines.specs.declared.rules.Rules.TheVariants.{Standard, Amount, Set}
use Rattle.zic_lines.specs.declared.until.Until.{Until}
use Rattle.zic_lines.specs.declared.zone_line.ZoneLine.{ZoneLine}
use Rattle.zic_source.specs.Sound.{IsSoundRule}
use Rattle.zic_base.proofs.Elements.{all_got}
use Rattle.zic_states.specs.Occurrence.{Occurrence, IsOccurrence, year_second}
use Rattle.zic_states.specs.Order.{IsInstant}
use Rattle.zic_states.proofs.Bounds.{instant_from}
use Rattle.zic_states.proofs.LastNamed.{named_year}
use Rattle.zic_states.specs.Change.{IsChange}
use Rattle.zic_states.specs.End.{IsEndBy, IsEndOfFixed, IsLastYear}
use Rattle.zic_states.specs.InForce.{InForce, RulesHaveInForce}
use Rattle.zic_states.specs.Laws.{IsOrderly}
use Rattle.zic_states.specs.Until.{IsUntil, set_of}
use Rattle.zic_states.specs.Zone.{Zone, line_at, Ends, Governs, IsNotOver, HasInForce, ZoneHasInForce, Shows}
use Rattle.zic_base.specs.State.{Shown}
use Rattle.zic_states.proofs.Lines.{some_and_has, sound_line}
use Rattle.zic_states.proofs.States.{one_state}
use Rattle.zic_rules.specs.code.End.{IsInYears}
use Rattle.zic_rules.proofs.Untils.{near_until, in_years}
use Rattle.zic_rules.proofs.Years.{years_rise, not_later, year_1970, small}

module _ (zone : Zone) (orderly : IsOrderly zone) where
  -- ---- where lines end and rules occur

  ends_in_years : (i : ℕ) (t : ℤ) → Ends zone i t → IsInYears 9002 t
  ends_in_years i t ends =
      let (line, at, is) = some_and_has _ (λ line. IsUntil zone.source.rules line t) ends in
      in_years is.until t (near_until zone.source.rules line is.until t orderly.sets.sound.rules (sound_line zone orderly.sets i line at) is.has is)

  occurs_in_years : (i : ℕ) (line : ZoneLine) (name : List ℕ) (o : Occurrence) (t : ℤ) → line_at zone i ≡ Some line
      → IsOccurrence (set_of zone.source.rules name) o → IsInstant (set_of zone.source.rules name) line.offset o t → year_second (pos 0) ≤ℤ t
  occurs_in_years i line name o t is_line is at =
      let sound = orderly.sets.sound.rules in
      let from = instant_from (set_of zone.source.rules name) line.offset o t sound (sound_line zone orderly.sets i line is_line).offset is at in
      let first = (all_got IsSoundRule zone.source.rules o.number o.rule sound is.member.numbered).first in
      let begun = is.holds.begun in
      let rise = years_rise (pos 0) o.year (omega (arith, ints, first.0, begun)) in
      omega (arith, ints)

  -- ---- before the year 0

  module _ (t : ℤ) (early : t <ℤ year_second (pos 0)) where
    not_over_before : (line : ZoneLine) (until : Option Until)
        → MatchOption until (Unit {0}) (λ _. (end : ℤ) × IsUntil zone.source.rules line end × (t <ℤ end))
        → MatchOption until (Unit {0}) (λ _. (end : ℤ) × IsUntil zone.source.rules line end × ((t -ℤ pos 1) <ℤ end))
    not_over_before line None holds = tt
    not_over_before line (Some until) (end, is, lt) = (end, is, omega (arith, ints, lt))

    rules_before : (line : ZoneLine) → line_at zone 0 ≡ Some line → (says : Rules) (in_force : InForce)
        → RulesHaveInForce zone.source.rules line says (λ u. (u ≤ℤ t) × IsNotOver zone line u) in_force
        → RulesHaveInForce zone.source.rules line says (λ u. (u ≤ℤ (t -ℤ pos 1)) × IsNotOver zone line u) in_force
    rules_before line is_line Standard in_force keeps = keeps
    rules_before line is_line (Amount saving) in_force keeps = keeps
    rules_before line is_line (Set name) in_force (inl (o, last, is)) =
        let late = occurs_in_years 0 line name o last.instant is_line last.is last.at in
        let not_after = last.such.0 in
        absurd (omega (arith, ints))
    rules_before line is_line (Set name) in_force (inr (none, saving, daylight, letter)) =
        inr (λ q u is at such. let before = such.0 in none q u is at (omega (arith, ints), such.1), saving, daylight, letter)

    has_before : (i : ℕ) (line : ZoneLine) (in_force : InForce) → Governs zone i line t → HasInForce zone i line t in_force → ZoneHasInForce zone (t -ℤ pos 1) line in_force
    unfolding HasInForce
    has_before zero line in_force governs keeps = record {
      number = 0;
      governs = record { is_line = governs.is_line; begun = tt; not_over = not_over_before line line.until governs.not_over };
      keeps = rules_before line governs.is_line line.rules in_force keeps;
    }
    has_before (suc i) line in_force governs keeps =
        let (start, ends, begun) = governs.begun in
        let late = (ends_in_years i start ends).0 in
        absurd (omega (arith, ints))

    shows_before : (state : Shown) → Shows zone t state → Shows zone (t -ℤ pos 1) state
    shows_before state shows = record {
      line = shows.line;
      in_force = shows.in_force;
      keeps = has_before shows.keeps.number shows.line shows.in_force shows.keeps.governs shows.keeps.keeps;
      offset = shows.offset;
      daylight = shows.daylight;
      name = shows.name;
    }

  -- ---- the end

  year_before : (t year : ℤ) → year_second year ≤ℤ t → t <ℤ year_second (pos 9002) → year <ℤ pos 9002
  year_before t year from to =
      by_lt_z year (pos 9002) (λ lt. lt) (λ ge. let late = not_later (pos 9002) year ge in absurd (omega (arith, ints)))

  last_year_small : (i : ℕ) (name : List ℕ) (year : ℤ) → IsLastYear zone i name year → year ≤ℤ pos 9002
  last_year_small zero name year (named, last, is) =
      let range = named_year (set_of zone.source.rules name) named orderly.sets.sound.rules last in
      omega (arith, ints, range.1)
  last_year_small (suc i) name year (named, last, start, ends, of_start, lies, is) =
      let range = named_year (set_of zone.source.rules name) named orderly.sets.sound.rules last in
      let before = year_before start of_start lies.begun (ends_in_years i start ends).1 in
      omega (arith, ints, clamps, range.1)

  fixed_small : (i : ℕ) (end : ℤ) → IsEndOfFixed zone i end → end <ℤ year_second (pos 9900)
  fixed_small zero end is = let rise = years_rise (pos 1970) (pos 9900) (omega (arith, ints)) in let epoch = year_1970 in omega (arith, ints)
  fixed_small (suc i) end (start, ends, is) =
      let before = (ends_in_years i start ends).1 in
      let rise = years_rise (pos 9002) (pos 9900) (omega (arith, ints)) in
      omega (arith, ints)

  end_small : (i : ℕ) (says : Rules) (end : ℤ) → IsEndBy zone i says end → end <ℤ year_second (pos 9900)
  end_small i Standard end is = fixed_small i end is
  end_small i (Amount saving) end is = fixed_small i end is
  end_small i (Set name) end (year, last, is) =
      let before = last_year_small i name year last in
      let rise = years_rise (year +ℤ pos 3) (pos 9900) (omega (arith, ints)) in
      omega (arith, ints)

  -- ---- changes

  change_in_years : (t : ℤ) → IsChange zone t → IsInYears 9900 t
  change_in_years t is =
      let (i, line, last, by) = is.is_end in
      let end = end_small i line.rules is.end by in
      let before = is.before_end in (
        by_lt_z t (year_second (pos 0))
            (λ early. absurd (is.differs (one_state zone orderly (t -ℤ pos 1) is.state is.earlier (shows_before t early is.state is.shows) is.showed)))
            (λ late. late),
        omega (arith, ints),
      )

  pub change_fits : (t : ℤ) → IsChange zone t → FitsSigned w64 t
  change_fits t is = let range = small 9900 t (omega arith) (change_in_years t is) in omega (arith, ints, range)
