-- What a zone keeps comes again after 400 years.
use Rattle.std.proofs.Common.{◌≡◌, ℕ, inl, inr, List, refl, sym, subst, arith}
use Rattle.std.specs.Prelude.{ℤ, pos, ◌+ℤ◌, ◌-ℤ◌, ◌≤ℤ◌}
use Rattle.std.proofs.lemmas.Int.{ints, by_lt_z}
use Rattle.zic_lines.specs.declared.rules.Rules.{Rules}
use Rattle.zic_lines.specs.declared.rules.Rules.TheVariants.{Standard, Amount, Set}
use Rattle.zic_lines.specs.declared.zone_line.ZoneLine.{ZoneLine}
use Rattle.zic_states.specs.OccurrenceLaws.{IsLastOccurrence}
use Rattle.zic_states.specs.Occurrence.{RuleSet, Occurrence, year_second}
use Rattle.zic_states.proofs.Instants.{last_not_after}
use Rattle.zic_states.specs.End.{IsLastLine, IsEndBy, IsEnd}
use Rattle.zic_states.specs.InForce.{InForce, in_force_of, in_force_from}
use Rattle.zic_states.specs.Laws.{IsOrderly}
use Rattle.zic_states.specs.Tail.{HasContinuing, IsOnlyContinuing, HasNoSet, HasLastSet, HasJustInForce, HasInForceFrom, Repeats}
use Rattle.zic_states.specs.TailLaws.{RepeatsForEver, AlternatesForEver}
use Rattle.zic_states.specs.Until.{set_of}
use Rattle.zic_states.specs.Zone.{Zone, ZoneHasInForce}
use Rattle.zic_states.proofs.TailInForce.{given, has_from_last, by_one, by_none}
use Rattle.zic_states.proofs.TailLine.{governs_from_end, fixed_tail}
use Rattle.zic_states.proofs.TailRepeats.{again, current_again, late_or_only, follows_another}
use Rattle.zic_states.proofs.TailSet.{rule_in, last_is_after, some_last, own_instant}
use Rattle.zic_states.proofs.TailShown.{continuing_or_none}
use Rattle.zic_states.proofs.TailWindow.{settled}

-- what is kept at two instants alike, at the one where it is kept at the other
pub at_both : (zone : Zone) (t u : ℤ) (line : ZoneLine) (in_force : InForce) → HasJustInForce zone t line in_force → HasJustInForce zone u line in_force
    → (other : ZoneLine) (thing : InForce) → ZoneHasInForce zone t other thing → ZoneHasInForce zone u other thing
at_both zone t u line in_force here there other thing keeps =
    let (same_line, same) = here.only other thing keeps in
    let by_line = subst (λ (x : ZoneLine). ZoneHasInForce zone u x in_force) (sym same_line) there.keeps in
    subst (λ (x : InForce). ZoneHasInForce zone u other x) (sym same) by_line

-- where what is kept comes again, what is shown does
repeats : (zone : Zone) (start : ℤ)
    → ((t : ℤ) (line : ZoneLine) (in_force : InForce) → start ≤ℤ t → ZoneHasInForce zone t line in_force → ZoneHasInForce zone (t +ℤ pos 12_622_780_800) line in_force)
    → Repeats zone start
repeats zone start again = record {
  keeps = again;
  shows = λ t state le shown. record {
    line = shown.line;
    in_force = shown.in_force;
    keeps = again t shown.line shown.in_force le shown.keeps;
    offset = shown.offset;
    daylight = shown.daylight;
    name = shown.name;
  };
}

-- where one thing is kept for ever
repeats_from : (zone : Zone) (start : ℤ) (line : ZoneLine) (in_force : InForce) → HasInForceFrom zone start line in_force → Repeats zone start
repeats_from zone start line in_force from = repeats zone start
    (λ t other thing le keeps. at_both zone t (t +ℤ pos 12_622_780_800) line in_force (from t le) (from (t +ℤ pos 12_622_780_800) (omega (arith, ints))) other thing keeps)

module _ (zone : Zone) (orderly : IsOrderly zone) (i : ℕ) (line : ZoneLine) (name : List ℕ) (year : ℤ) (tail : HasLastSet zone i line name year) where
  abbrev set : RuleSet
  set = set_of zone.source.rules name

  module _ (has : HasContinuing set) (o : Occurrence) (u : ℤ) (last : IsLastOccurrence set line.offset (year_second (year +ℤ pos 3) -ℤ pos 1) o u) where
    last_is_settled : settled year ≤ℤ u
    last_is_settled =
        let (number, rule, member, continues) = has in
        let (later, x, is, at, late, before) = own_instant set line.offset year (given zone orderly i line name year tail) number rule member continues in
        let not_past : x ≤ℤ u = last.last (rule_in number rule later) x is at (omega (arith, ints)) in
        omega (arith, ints)

    -- where its rule is the only one that goes on
    only_in_force : IsOnlyContinuing set o.number o.rule → (t : ℤ) → u ≤ℤ t → HasJustInForce zone t line (in_force_of o.rule)
    only_in_force only t le =
        by_lt_z t (year_second (year +ℤ pos 3) -ℤ pos 1)
        (λ lt.
        let settled_by = last_is_settled in
        has_from_last zone orderly i line name year tail t o u (omega (arith, ints))
        (record {
          is = last.is;
          instant = last.instant;
          not_after = le;
          last = λ q v is at not_after. last.last q v is at (omega (arith, ints));
        }))
        (λ ge. by_one zone orderly i line name year tail o.number o.rule only t ge)

    some_current : (t : ℤ) → u ≤ℤ t → (q : Occurrence) × (v : ℤ) × IsLastOccurrence set line.offset t q v
    some_current t le =
        let from = given zone orderly i line name year tail in
        elim (last_not_after set line.offset t from.ordered.sound from.ordered.within from.ordered.order) [
          | inl found ↦ found
          | inr none ↦ let after = none o u last.is last.instant in absurd (omega (arith, ints))
        ]

    in_force_again : (t : ℤ) (other : ZoneLine) (thing : InForce) → u ≤ℤ t → ZoneHasInForce zone t other thing → ZoneHasInForce zone (t +ℤ pos 12_622_780_800) other thing
    in_force_again t other thing le keeps =
        let from = given zone orderly i line name year tail in
        let (number, rule, member, continues) = has in
        let settled_by = last_is_settled in
        let after = last_is_after set line.offset year from number rule member continues (year_second (year +ℤ pos 3) -ℤ pos 1) o u (omega (arith, ints)) last in
        elim (late_or_only set line.offset year from o u last after) [
          | inl late ↦
              let (q, v, current) = some_current t le in
              let later = current_again set line.offset year from (year_second (year +ℤ pos 3) -ℤ pos 1) t o q u v late last le current in
              at_both zone t (t +ℤ pos 12_622_780_800) line (in_force_from q)
              (has_from_last zone orderly i line name year tail t q v (omega (arith, ints)) current)
              (has_from_last zone orderly i line name year tail (t +ℤ pos 12_622_780_800) (again q) (v +ℤ pos 12_622_780_800) (omega (arith, ints)) later)
              other thing keeps
          | inr only ↦
              at_both zone t (t +ℤ pos 12_622_780_800) line (in_force_of o.rule)
              (only_in_force only t le)
              (only_in_force only (t +ℤ pos 12_622_780_800) (omega (arith, ints)))
              other thing keeps
        ]

    from_last : Repeats zone u
    from_last = repeats zone u in_force_again

  set_repeats : Repeats zone (year_second (year +ℤ pos 3) -ℤ pos 1)
  set_repeats =
      elim (continuing_or_none set) [
        | inl has ↦
            let (number, rule, member, continues) = has in
            let (o, u, last) = some_last set line.offset year (given zone orderly i line name year tail) number rule member continues
            (year_second (year +ℤ pos 3) -ℤ pos 1) (omega (arith, ints)) in
            let before = last.not_after in
            repeats zone (year_second (year +ℤ pos 3) -ℤ pos 1)
            (λ t other thing le keeps. in_force_again has o u last t other thing (omega (arith, ints)) keeps)
        | inr none ↦
            let (in_force, from) = by_none zone orderly i line name year tail none in
            repeats_from zone (year_second (year +ℤ pos 3) -ℤ pos 1) line in_force from
      ]

module _ (zone : Zone) (orderly : IsOrderly zone) (i : ℕ) (line : ZoneLine) (last : IsLastLine zone i line) where
  fixed_repeats : (end : ℤ) → HasNoSet line.rules → IsEnd zone end → Repeats zone (end -ℤ pos 1)
  fixed_repeats end none is_end =
      let (in_force, from) = fixed_tail zone orderly i line last none in
      let governs = governs_from_end zone orderly.sets i line end (end -ℤ pos 1) last is_end (omega (arith, ints)) in
      repeats_from zone (end -ℤ pos 1) line in_force (from (end -ℤ pos 1) governs.begun)

  repeats_by : (says : Rules) (end : ℤ) → line.rules ≡ says → IsEndBy zone i says end → IsEnd zone end → Repeats zone (end -ℤ pos 1)
  repeats_by Standard end e by is_end = fixed_repeats end (subst HasNoSet (sym e) tt) is_end
  repeats_by (Amount saving) end e by is_end = fixed_repeats end (subst HasNoSet (sym e) tt) is_end
  repeats_by (Set name) end e (year, last_year, is) is_end =
      subst (λ (s : ℤ). Repeats zone (s -ℤ pos 1)) (sym is)
      (set_repeats zone orderly i line name year (record { is_last = last; has_set = e; last_year = last_year }))

pub repeats_for_ever : RepeatsForEver
repeats_for_ever = record {
  from_end = λ zone orderly end is_end.
      let (i, line, last, by) = is_end in
      repeats_by zone orderly i line last line.rules end refl by is_end;
  from_last = λ zone orderly i line name year tail has o start last. from_last zone orderly i line name year tail has o start last;
}

pub alternates_for_ever : AlternatesForEver
alternates_for_ever zone orderly i line name year tail has alternate o u last q is le =
    let from = given zone orderly i line name year tail in
    let (number, rule, member, continues) = has in
    let after = last_is_after (set_of zone.source.rules name) line.offset year from number rule member continues
    (year_second (year +ℤ pos 3) -ℤ pos 1) o u (omega (arith, ints)) last in
    follows_another (set_of zone.source.rules name) line.offset year from alternate o u last after q is le
