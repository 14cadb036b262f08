-- The string by two rules in turn means what the zone shows, from the last change on.
use Rattle.std.proofs.Common.{◌≡◌, ◌⊎◌, inl, inr, ℕ, Bool, true, false, List, refl, sym, ap, subst, ◌∙◌, arith}
use Rattle.std.specs.Prelude.{ℤ, pos, ◌+ℤ◌, ◌-ℤ◌, ◌<ℤ◌, ◌≤ℤ◌}
use Rattle.std.proofs.lemmas.Int.{ints}
use Rattle.zic_base.specs.State.{Shown}
use Rattle.zic_lines.specs.declared.rules.Rules.{Rules}
use Rattle.zic_states.specs.OccurrenceLaws.{IsLastOccurrence}
use Rattle.zic_states.specs.Occurrence.{RuleSet, Occurrence, year_second}
use Rattle.zic_states.specs.Change.{IsAfterChanges}
use Rattle.zic_states.specs.End.{IsEnd, IsEndBy}
use Rattle.zic_states.specs.Laws.{IsOrderly}
use Rattle.zic_states.specs.Tail.{Alternate, HasContinuing, Repeats}
use Rattle.zic_states.specs.Until.{set_of}
use Rattle.zic_states.specs.Zone.{Zone, Shows}
use Rattle.zic_states.proofs.States.{one_state}
use Rattle.zic_states.proofs.TailForEver.{repeats_for_ever}
use Rattle.zic_states.proofs.TailInForce.{given}
use Rattle.zic_states.proofs.TailSet.{IsNamedTo}
use Rattle.zic_rules.specs.Tail.{IsTailBy, ShowsLast, AreOfBothFlags, IsRulesTail, tail_state}
use Rattle.zic_rules.specs.declared.tail.TailRule.{TailRule}
use Rattle.zic_rules.proofs.TailTurns.{last_occurrence_is_change}
use Rattle.zic_posix.specs.Footer.{TzString}
use Rattle.zic_posix.specs.Meaning.{Means}
use Rattle.zic_posix.proofs.Cycles.{means_later}
use Rattle.zic_posix.proofs.Edges.{instant_in-rises}
use Rattle.zic_posix.proofs.Meanings.{means_only}
use Rattle.zic_footer.specs.Making.{IsPair, IsWide, GoesOn}
use Rattle.zic_footer.specs.code.Edges.{edge_of, daylight_part, by_rules}
use Rattle.zic_footer.specs.code.Turns.{IsSoundTail}
use Rattle.zic_footer.proofs.EdgeInstants.{edge, start_at, stop_at}
use Rattle.zic_footer.proofs.InTurn.{edge_before, current_at}
use Rattle.zic_footer.proofs.Pairs.{is_edge}
use Rattle.zic_footer.proofs.TailRules.{AreTwo, two_rules, turned}

-- a state is one by its parts
same_state : (offset : ℤ) (a b : Bool) (name : List ℕ) → a ≡ b
    → Path Shown (record { offset = offset; daylight = a; name = name }) (record { offset = offset; daylight = b; name = name })
same_state offset a b name e = ap (λ (x : Bool). record { offset = offset; daylight = x; name = name }) e

-- rules of both flags
both_flags : (tails : List TailRule) (starting ending : TailRule) → IsPair tails starting ending → AreOfBothFlags tails
both_flags tails starting ending pair = elim pair.two [
  | inl e ↦ (starting, ending, e, λ same. let d = pair.daylight in let s = pair.standard in cc)
  | inr e ↦ (ending, starting, e, λ same. let d = pair.daylight in let s = pair.standard in cc)
]

module _ (zone : Zone) (orderly : IsOrderly zone) (standard year : ℤ) (tails : List TailRule) (tail : IsRulesTail zone standard year tails)
    (starting ending : TailRule) (pair : IsPair tails starting ending)
    (alternate : Alternate (set_of zone.source.rules tail.by.name) tail.by.last)
    (sound_start : IsSoundTail standard starting) (sound_stop : IsSoundTail standard ending)
    (start : IsWide (edge_of standard starting ending.saving.seconds)) (stop : IsWide (edge_of standard ending starting.saving.seconds)) where
  abbrev by : IsTailBy zone standard year tails
  by = tail.by

  abbrev set : RuleSet
  set = set_of zone.source.rules by.name

  abbrev string : TzString
  string = by_rules standard starting ending

  abbrev end : ℤ
  end = year_second (by.last +ℤ pos 3)

  is_end : IsEnd zone end
  is_end = (by.number, by.line, by.last_set.is_last, subst (λ (r : Rules). IsEndBy zone by.number r end) (sym by.last_set.has_set) (by.last, by.last_set.last_year, refl))

  named : IsNamedTo set standard by.last
  named = subst (λ (x : ℤ). IsNamedTo set x by.last) (sym by.of_line) (given zone orderly by.number by.line by.name by.last by.last_set)

  two : AreTwo set by.line by.numbers tails starting ending
  two = two_rules zone standard year tails by starting ending pair

  abbrev two_turned : AreTwo set by.line by.numbers tails ending starting
  two_turned = turned set by.line by.numbers tails starting ending two

  flags : AreOfBothFlags tails
  flags = both_flags tails starting ending pair

  -- the last occurrence before the end
  module _ (at_end : ShowsLast zone set standard year by.numbers tails (end -ℤ pos 1)) where
    abbrev o : Occurrence
    o = at_end.occurrence

    abbrev u : ℤ
    u = at_end.instant

    after : by.last <ℤ o.year
    after = let from = at_end.in_years in let next = by.after_last in omega (arith, ints)

    before_end : IsLastOccurrence set standard (end -ℤ pos 1) o u
    before_end = at_end.current

    -- which is a change, so what comes after all changes comes after it
    from_last : (t : ℤ) → IsAfterChanges zone t → u ≤ℤ t
    from_last t changes = changes u (last_occurrence_is_change zone orderly standard year tails by flags alternate end is_end o u before_end)

    -- the current rule by its number
    by_number : (t : ℤ) (shown : ShowsLast zone set standard year by.numbers tails t)
        → ((shown.occurrence.number ≡ two.start) × (shown.tail ≡ starting)) ⊎ ((shown.occurrence.number ≡ two.stop) × (shown.tail ≡ ending))
    by_number t shown = two.place shown.place shown.occurrence.number shown.tail shown.number shown.is_tail

    -- ---- late instants

    start_rises : (a b : ℤ) → a <ℤ b → edge standard starting ending a <ℤ edge standard starting ending b
    start_rises a b lt =
        let rises = instant_in-rises (edge_of standard starting ending.saving.seconds) string.offset a b (is_edge standard ending.saving.seconds starting sound_start start) lt in
        omega (arith, ints, start_at standard starting ending a sound_start, start_at standard starting ending b sound_start)

    stop_rises : (a b : ℤ) → a <ℤ b → edge standard ending starting a <ℤ edge standard ending starting b
    stop_rises a b lt =
        let rises = instant_in-rises (edge_of standard ending starting.saving.seconds) (daylight_part standard starting ending).offset a b (is_edge standard starting.saving.seconds ending sound_stop stop) lt in
        omega (arith, ints, stop_at standard starting ending a sound_stop, stop_at standard starting ending b sound_stop)

    -- 400 years later the string means what the zone shows
    means_late : (t : ℤ) (shown : ShowsLast zone set standard year by.numbers tails t) → (u +ℤ pos 12_622_780_800) ≤ℤ t → Means string t (tail_state standard shown.tail)
    means_late t shown late =
        let q = shown.occurrence in
        let v = shown.instant in
        let current = shown.current in
        let not_after = current.not_after in
        elim (by_number t shown) [
          | inl (n, a) ↦
              let at = current_at set standard by.last named alternate o u before_end after by.line by.numbers tails by.continuing starting ending two t q v (omega (arith, ints)) current n in
              let here = start_at standard starting ending q.year sound_start in
              let before = edge_before set standard by.last named alternate o u before_end after by.line by.numbers tails by.continuing ending starting two_turned stop_rises t q v late current n in
              inl (
                record {
                  year = q.year;
                  started = omega (arith, ints);
                  last = λ other le.
                      let there = stop_at standard starting ending other sound_stop in
                      let lt = before other (omega (arith, ints)) in
                      omega (arith, ints);
                },
                ap (λ (x : TailRule). tail_state standard x) a ∙ same_state (standard +ℤ starting.saving.seconds) starting.saving.daylight true starting.name pair.daylight,
              )
          | inr (n, a) ↦
              let at = current_at set standard by.last named alternate o u before_end after by.line by.numbers tails by.continuing ending starting two_turned t q v (omega (arith, ints)) current n in
              let here = stop_at standard starting ending q.year sound_stop in
              let before = edge_before set standard by.last named alternate o u before_end after by.line by.numbers tails by.continuing starting ending two start_rises t q v late current n in
              inr (
                record {
                  year = q.year;
                  stopped = omega (arith, ints);
                  last = λ other le.
                      let there = start_at standard starting ending other sound_start in
                      let lt = before other (omega (arith, ints)) in
                      omega (arith, ints);
                },
                ap (λ (x : TailRule). tail_state standard x) a ∙ same_state (standard +ℤ ending.saving.seconds) ending.saving.daylight false ending.name pair.standard,
              )
        ]

    -- ---- all instants after the changes

    has_continuing : HasContinuing set
    has_continuing = (two.start, two.starts.0, two.starts.1.member, two.starts.1.continues)

    comes_again : Repeats zone u
    comes_again =
        let at_line = subst (λ (x : ℤ). IsLastOccurrence set x (end -ℤ pos 1) o u) by.of_line before_end in
        repeats_for_ever.from_last zone orderly by.number by.line by.name by.last by.last_set has_continuing o u at_line

    goes_on_from : GoesOn zone string
    goes_on_from t state changes means =
        let from = from_last t changes in
        let later = t +ℤ pos 12_622_780_800 in
        let here = tail.from_change flags alternate t changes in
        let there = tail.from_change flags alternate later (λ c is_change. let le = changes c is_change in omega (arith, ints)) in
        let means_there = means_late later there (omega (arith, ints)) in
        let same = means_only string later state (tail_state standard there.tail) (means_later string t state means) means_there in
        let same_there = one_state zone orderly later (tail_state standard here.tail) (tail_state standard there.tail)
        (comes_again.shows t (tail_state standard here.tail) from here.shows) there.shows in
        subst (λ (s : Shown). Shows zone t s) (same_there ∙ sym same) here.shows

  pub goes_on : GoesOn zone (by_rules standard starting ending)
  goes_on = goes_on_from (tail.from_end (end -ℤ pos 1) (end, is_end, omega (arith, ints)))
