-- What the occurrences of a line tell.
use Rattle.std.proofs.Common.{◌≡◌, ℕ, ◌+◌, List, [], get_or, Option, Some, None, All, refl, sym, ap, subst, ◌∙◌, arith, ℤ, pos, ◌+ℤ◌, ◌<ℤ◌, ◌≤ℤ◌, ◌↔◌}
use Rattle.std.specs.Prelude.{IfSome, int_lt}
use Rattle.std.specs.Int.{int_max}
use Rattle.std.specs.Option.{MatchOption}
use Rattle.std.proofs.lemmas.Int.{ints}
use Rattle.std.proofs.lemmas.Option.{MatchOption-at_some}
use Rattle.std.proofs.lemmas.List.Elements.{filter_passes}
use Rattle.std.proofs.lemmas.List.Kept.{AllPairs-filter}
use Rattle.zic_lines.specs.declared.rule_line.Rule.{Rule}
use Rattle.zic_lines.specs.declared.rules.Rules.{Rules}
use Rattle.zic_lines.specs.declared.rules.Rules.TheVariants.{Standard, Amount, Set}
use Rattle.zic_lines.specs.declared.until.Until.{Until}
use Rattle.zic_lines.specs.declared.zone_line.ZoneLine.{ZoneLine}
use Rattle.zic_source.specs.Sound.{IsSoundRule, IsSoundLine}
use Rattle.zic_states.specs.declared.occurrence.TimedOccurrence.{TimedOccurrence}
use Rattle.zic_states.specs.Occurrence.{year_second}
use Rattle.zic_states.specs.Order.{IsInOrder}
use Rattle.zic_states.specs.ByList.{AreRising, before}
use Rattle.zic_states.specs.code.Listed.{AreListedFor}
use Rattle.zic_states.specs.Occurrences.{AreOccurrencesFor}
use Rattle.zic_states.specs.Until.{IsUntil, set_of}
use Rattle.zic_states.specs.Zone.{Zone, IsNotOver}
use Rattle.zic_states.proofs.ByList.{limit_at_end, limit_without_until, listed_to_year, has_by_list, is_rule_of_line}
use Rattle.zic_states.proofs.Filters.{less_from_test}
use Rattle.zic_states.proofs.Ordered.{one_until}
use Rattle.zic_rules.specs.code.End.{IsEndAfter}
use Rattle.zic_rules.specs.code.Line.{IsOrderedOn, AreOccurrencesOn, GivesInForce, bound_of}
use Rattle.zic_rules.proofs.Ends.{IsFixed}

pub ordered_set : (rules : List Rule) (offset : ℤ) (says : Rules) → IsOrderedOn rules offset says → (name : List ℕ) → says ≡ Set name → IsInOrder (set_of rules name) offset
ordered_set rules offset says order name has = subst (IsOrderedOn rules offset) has order

-- of a line's occurrences each comes after the one before it
pub rising_on : (rules : List Rule) (offset : ℤ) (year : ℕ) (says : Rules) (xs : List TimedOccurrence) → AreOccurrencesOn rules offset year says xs → AreRising xs
rising_on rules offset year Standard xs none = subst AreRising (sym none) (λ i j d lt within. absurd (omega arith))
rising_on rules offset year (Amount saving) xs none = subst AreRising (sym none) (λ i j d lt within. absurd (omega arith))
rising_on rules offset year (Set name) xs (bound, from, listed) = listed.rising

listed_on : (rules : List Rule) (offset limit : ℤ) (year : ℕ) (says : Rules) (xs : List TimedOccurrence) → IsOrderedOn rules offset says
    → AreOccurrencesOn rules offset year says xs → (limit +ℤ pos 172_800) ≤ℤ year_second (pos year) → AreListedFor rules offset limit says xs
listed_on rules offset limit year Standard xs order listed within = tt
listed_on rules offset limit year (Amount saving) xs order listed within = tt
listed_on rules offset limit year (Set name) xs order listed within = listed_to_year rules name offset limit year xs order listed within

-- in the form in which an UNTIL is read
pub listed_for_until : (rules : List Rule) (line : ZoneLine) (until : Until) (says : Rules) (xs : List TimedOccurrence) → line.until ≡ Some until
    → IsOrderedOn rules line.offset says → AreOccurrencesOn rules line.offset (until.year + 2) says xs → AreOccurrencesFor rules line says xs
listed_for_until rules line until Standard xs has order listed = tt
listed_for_until rules line until (Amount saving) xs has order listed = tt
listed_for_until rules line until (Set name) xs has order listed = (order, rw has listed)

pub before_limit : (xs : List TimedOccurrence) (limit : ℤ) → All (λ x. x.instant <ℤ limit) (before xs limit)
before_limit xs limit = λ i d within. less_from_test (get_or (before xs limit) i d).instant limit (filter_passes (λ (x : TimedOccurrence). int_lt x.instant limit) xs i d within)

pub rising_before : (xs : List TimedOccurrence) (limit : ℤ) → AreRising xs → AreRising (before xs limit)
rising_before xs limit rising = AllPairs-filter (λ a b. a.instant <ℤ b.instant) (λ x. int_lt x.instant limit) xs rising

listed_fixed : (rules : List Rule) (offset limit : ℤ) (says : Rules) (xs : List TimedOccurrence) → IsFixed says → AreListedFor rules offset limit says xs
listed_fixed rules offset limit Standard xs fixed = tt
listed_fixed rules offset limit (Amount saving) xs fixed = tt
listed_fixed rules offset limit (Set name) xs fixed = absurd fixed

none_fixed : (rules : List Rule) (offset : ℤ) (year : ℕ) (says : Rules) (xs : List TimedOccurrence) → IsFixed says → AreOccurrencesOn rules offset year says xs → xs ≡ []
none_fixed rules offset year Standard xs fixed none = none
none_fixed rules offset year (Amount saving) xs fixed none = none
none_fixed rules offset year (Set name) xs fixed none = absurd fixed

fixed_at : (says r : Rules) → says ≡ r → IsFixed r → IsFixed says
fixed_at says r is fixed = subst IsFixed (sym is) fixed

greater : (end start : ℤ) → (start +ℤ pos 432_000) <ℤ end → int_max end (start +ℤ pos 432_000) ≡ end
greater end start lt = grind (arith, ints)

module _ (zone : Zone) (line : ZoneLine) (sound : All IsSoundRule zone.source.rules) (line_sound : IsSoundLine zone.source.rules line)
    (order : IsOrderedOn zone.source.rules line.offset line.rules) (xs : List TimedOccurrence) where
  -- a line with an UNTIL isn't over just before its instant
  pub not_over_until : (end u : ℤ) → IsUntil zone.source.rules line end → IsNotOver zone line u ↔ (u <ℤ end)
  not_over_until end u is =
      let Later : Type 0 = (e : ℤ) × IsUntil zone.source.rules line e × (u <ℤ e) in (
        λ not_over.
            let (e, is_too, lt) : Later = MatchOption-at_some (Unit {0}) (λ _. Later) is.until is.has not_over in
            let same = one_until zone.source.rules line (ordered_set zone.source.rules line.offset line.rules order) e end is_too is in
            omega (arith, ints, lt, same),
        λ lt. subst (λ (o : Option Until). MatchOption o (Unit {0}) (λ _. Later)) (sym is.has) (end, is, lt),
      )

  pub gives_to_until : (end bound : ℤ) (year : ℕ) → IsUntil zone.source.rules line end → AreOccurrencesOn zone.source.rules line.offset year line.rules xs
      → (end +ℤ pos 172_800) ≤ℤ year_second (pos year) → GivesInForce zone bound line (before xs end)
  gives_to_until end bound year is are within =
      let listed = listed_on zone.source.rules line.offset end year line.rules xs order are within in
      record {
        rising = rising_before xs end (rising_on zone.source.rules line.offset year line.rules xs are);
        is_rule = λ t. is_rule_of_line zone.source.rules line xs end t listed;
        keeps = λ t in_force lt by. has_by_list zone line xs end t in_force sound line_sound.offset listed
            (limit_at_end zone line end t (λ u. not_over_until end u is)) by;
      }

  -- the last line has none, and its occurrences tell what it keeps up to the limit
  pub gives_to_limit : (limit : ℤ) (year : ℕ) → line.until ≡ None → AreOccurrencesOn zone.source.rules line.offset year line.rules xs
      → (limit +ℤ pos 172_800) ≤ℤ year_second (pos year) → GivesInForce zone limit line (before xs limit)
  gives_to_limit limit year none are within =
      let listed = listed_on zone.source.rules line.offset limit year line.rules xs order are within in
      record {
        rising = rising_before xs limit (rising_on zone.source.rules line.offset year line.rules xs are);
        is_rule = λ t. is_rule_of_line zone.source.rules line xs limit t listed;
        keeps = λ t in_force lt by. has_by_list zone line xs limit t in_force sound line_sound.offset listed (limit_without_until zone line limit t none lt) by;
      }

  -- where RULES name no set, they tell it for ever
  gives_fixed : (end bound : ℤ) (year : ℕ) → line.until ≡ None → IsFixed line.rules → AreOccurrencesOn zone.source.rules line.offset year line.rules xs
      → GivesInForce zone bound line (before xs end)
  gives_fixed end bound year none fixed are =
      let empty = none_fixed zone.source.rules line.offset year line.rules xs fixed are in
      let listed = listed_fixed zone.source.rules line.offset bound line.rules xs fixed in
      let own : GivesInForce zone bound line (before xs bound) = record {
        rising = rising_before xs bound (rising_on zone.source.rules line.offset year line.rules xs are);
        is_rule = λ t. is_rule_of_line zone.source.rules line xs bound t listed;
        keeps = λ t in_force lt by. has_by_list zone line xs bound t in_force sound line_sound.offset listed (limit_without_until zone line bound t none lt) by;
      } in
      subst (GivesInForce zone bound line) (ap (λ (l : List TimedOccurrence). before l bound) empty ∙ sym (ap (λ (l : List TimedOccurrence). before l end) empty)) own

  gives_by_rules : (says : Rules) → line.rules ≡ says → (start : ℤ) (end : ℤ) (year : ℕ) → line.until ≡ None
      → AreOccurrencesOn zone.source.rules line.offset year line.rules xs → (end +ℤ pos 172_800) ≤ℤ year_second (pos year)
      → IsEndAfter says start end → GivesInForce zone (int_max end (start +ℤ pos 432_000)) line (before xs end)
  gives_by_rules Standard is start end year none are within after = gives_fixed end _ year none (fixed_at line.rules Standard is tt) are
  gives_by_rules (Amount saving) is start end year none are within after = gives_fixed end _ year none (fixed_at line.rules (Amount saving) is tt) are
  gives_by_rules (Set name) is start end year none are within after =
      subst (λ (b : ℤ). GivesInForce zone b line (before xs end)) (sym (greater end start after)) (gives_to_limit end year none are within)

  -- the last line's occurrences before the explicit end tell what it keeps
  pub gives_last : (start : Option ℤ) (end : ℤ) (year : ℕ) → line.until ≡ None → AreOccurrencesOn zone.source.rules line.offset year line.rules xs
      → (end +ℤ pos 172_800) ≤ℤ year_second (pos year) → IfSome start (λ s. IsEndAfter line.rules s end)
      → GivesInForce zone (bound_of start end) line (before xs end)
  gives_last None end year none are within after = gives_to_limit end year none are within
  gives_last (Some s) end year none are within after = gives_by_rules line.rules refl s end year none are within after
