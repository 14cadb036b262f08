-- What a zone keeps from its explicit end on, where its last line has a set.
use Rattle.std.proofs.Common.{◌≡◌, ℕ, zero, suc, inl, inr, List, refl, sym, ap, ◌∙◌, subst, arith}
use Rattle.std.specs.Prelude.{ℤ, pos, ◌+ℤ◌, ◌-ℤ◌, ◌≤ℤ◌, slice_get}
use Rattle.std.proofs.lemmas.Int.{ints, clamps, by_lt_z}
use Rattle.std.proofs.lemmas.Option.{same_Some}
use Rattle.zic_lines.specs.declared.rule_line.Rule.{Rule}
use Rattle.zic_lines.specs.declared.rules.Rules.{Rules}
use Rattle.zic_lines.specs.declared.zone_line.ZoneLine.{ZoneLine}
use Rattle.zic_states.specs.OccurrenceLaws.{IsLastOccurrence}
use Rattle.zic_states.specs.Listing.{IsLastNamed}
use Rattle.zic_states.specs.Occurrence.{RuleSet, Occurrence, IsOccurrence, year_second}
use Rattle.zic_states.specs.Order.{IsInstant}
use Rattle.zic_states.proofs.Bounds.{years_apart}
use Rattle.zic_states.specs.End.{IsLastYear}
use Rattle.zic_states.specs.InForce.{InForce, IsLastOf, SetHasInForce, RulesHaveInForce, in_force_of, in_force_from}
use Rattle.zic_states.specs.Laws.{IsOrderly}
use Rattle.zic_states.specs.Tail.{HasContinuing, IsOnlyContinuing, HasLastSet, HasJustInForce, HasInForceFrom, HasInForceByContinuing}
use Rattle.zic_states.specs.Until.{set_of}
use Rattle.zic_states.specs.Zone.{Zone, IsNotOver}
use Rattle.zic_states.proofs.Lines.{sound_line, set_in_order, always_not_over}
use Rattle.zic_states.proofs.SomeInForce.{some_in_force}
use Rattle.zic_states.proofs.TailLine.{has_just}
use Rattle.zic_states.proofs.TailSet.{IsNamedTo, continues_after, past, last_is_after, some_last}
use Rattle.zic_states.proofs.TailWindow.{settled, begun_when_settled, has_by_itself, has_what_by_itself}

some_named : (zone : Zone) (i : ℕ) (name : List ℕ) (year : ℤ) → IsLastYear zone i name year
    → (named : ℕ) × IsLastNamed (set_of zone.source.rules name) named × (pos named ≤ℤ year)
some_named zone zero name year (named, last, is) = (named, last, omega (arith, ints))
some_named zone (suc i) name year (named, last, start, ends, of_start, lies, is) = (named, last, omega (arith, ints, clamps))

module _ (zone : Zone) (orderly : IsOrderly zone) (i : ℕ) (line : ZoneLine) (name : List ℕ) (year : ℤ) (tail : HasLastSet zone i line name year) where
  abbrev set : RuleSet
  set = set_of zone.source.rules name

  -- the instants up to t at which the line isn't over: all
  abbrev UpTo : ℤ → ℤ → Type 0
  UpTo t u = (u ≤ℤ t) × IsNotOver zone line u

  pub given : IsNamedTo set line.offset year
  given =
      let (named, last, le) = some_named zone i name year tail.last_year in
      record {
        ordered = record {
          sound = orderly.sets.sound.rules;
          within = (sound_line zone orderly.sets i line tail.is_last.is_line).offset;
          order = set_in_order zone orderly.sets i line tail.is_last.is_line name tail.has_set;
        };
        named = named;
        last = last;
        not_after = le;
      }

  end_is_settled : (t : ℤ) → (year_second (year +ℤ pos 3) -ℤ pos 1) ≤ℤ t → settled year ≤ℤ t
  end_is_settled t late = let apart = years_apart (year +ℤ pos 1) (year +ℤ pos 3) (omega (arith, ints)) in omega (arith, ints)

  -- what the set keeps from then on, the zone does
  zone_has : (t : ℤ) (in_force : InForce) → settled year ≤ℤ t → SetHasInForce set line.offset (UpTo t) in_force → HasJustInForce zone t line in_force
  zone_has t in_force late keeps =
      let by = subst (λ (r : Rules). RulesHaveInForce zone.source.rules line r (UpTo t) in_force) (sym tail.has_set) keeps in
      has_just zone orderly i line tail.is_last t in_force
      (begun_when_settled zone orderly.sets i name year t tail.last_year late)
      (has_what_by_itself zone orderly.sets i line name year t in_force tail.last_year tail.is_last.is_line late by)

  -- what the current occurrence begins
  pub has_from_last : (t : ℤ) (o : Occurrence) (u : ℤ) → settled year ≤ℤ t → IsLastOccurrence set line.offset t o u → HasJustInForce zone t line (in_force_from o)
  has_from_last t o u late last =
      let is_last : IsLastOf set line.offset (UpTo t) o = record {
        is = last.is;
        instant = u;
        at = last.instant;
        such = (last.not_after, always_not_over zone line u tail.is_last.no_until);
        last = λ q v is at such. last.last q v is at such.0;
      } in
      zone_has t (in_force_from o) late (inl (o, is_last, refl))

  -- ---- with a rule that goes on for ever

  pub by_continuing : HasContinuing set → (t : ℤ) → (year_second (year +ℤ pos 3) -ℤ pos 1) ≤ℤ t → HasInForceByContinuing zone t line name year
  by_continuing (number, rule, member, continues) t late =
      let (o, u, last) = some_last set line.offset year given number rule member continues t late in
      let after = last_is_after set line.offset year given number rule member continues t o u late last in
      record {
        occurrence = o;
        instant = u;
        current = last;
        after = after;
        continues = continues_after set line.offset year given o last.is after;
        keeps = has_from_last t o u (end_is_settled t late) last;
      }

  pub by_one : (number : ℕ) (rule : Rule) → IsOnlyContinuing set number rule → HasInForceFrom zone (year_second (year +ℤ pos 3) -ℤ pos 1) line (in_force_of rule)
  by_one number rule only t late =
      let by = by_continuing (number, rule, only.member, only.continues) t late in
      let same = only.only by.occurrence.number by.occurrence.rule by.current.is.member by.continues in
      let is : by.occurrence.rule ≡ rule = same_Some by.occurrence.rule rule
      (sym by.current.is.member.numbered ∙ ap (slice_get zone.source.rules) same ∙ only.member.numbered) in
      subst (λ (r : Rule). HasJustInForce zone t line (in_force_of r)) is by.keeps

  -- ---- without one

  module _ (none : HasContinuing set → ⊥) where
    all_past : (o : Occurrence) (u : ℤ) → IsOccurrence set o → IsInstant set line.offset o u → u ≤ℤ (year_second (year +ℤ pos 3) -ℤ pos 1)
    all_past o u is at =
        by_lt_z year o.year
        (λ after. absurd (none (o.number, o.rule, is.member, continues_after set line.offset year given o is after)))
        (λ le. let gone = past set line.offset year given o u is at le in omega (arith, ints))

    still : (t : ℤ) (in_force : InForce) → (year_second (year +ℤ pos 3) -ℤ pos 1) ≤ℤ t
        → SetHasInForce set line.offset (UpTo (year_second (year +ℤ pos 3) -ℤ pos 1)) in_force → SetHasInForce set line.offset (UpTo t) in_force
    still t in_force late (inl (o, last, e)) =
        let before = last.such.0 in
        inl (
          o,
          record {
            is = last.is;
            instant = last.instant;
            at = last.at;
            such = (omega (arith, ints), last.such.1);
            last = λ q u is at such. last.last q u is at (all_past q u is at, such.1);
          },
          e,
        )
    still t in_force late (inr (never, saving, daylight, letter)) =
        inr (λ q u is at such. never q u is at (all_past q u is at, such.1), saving, daylight, letter)

    pub by_none : (in_force : InForce) × HasInForceFrom zone (year_second (year +ℤ pos 3) -ℤ pos 1) line in_force
    by_none =
        let (in_force, keeps) = some_in_force zone orderly.sets i line (year_second (year +ℤ pos 3) -ℤ pos 1) tail.is_last.is_line in
        let by = has_by_itself zone orderly.sets i line name year (year_second (year +ℤ pos 3) -ℤ pos 1) in_force tail.last_year tail.is_last.is_line
        (end_is_settled (year_second (year +ℤ pos 3) -ℤ pos 1) (omega (arith, ints))) keeps in
        let by_set = subst (λ (r : Rules). RulesHaveInForce zone.source.rules line r (UpTo (year_second (year +ℤ pos 3) -ℤ pos 1)) in_force) tail.has_set by in
        (in_force, λ t late. zone_has t in_force (end_is_settled t late) (still t in_force late by_set))
