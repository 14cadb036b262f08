-- The set of a zone's last line after the last year that it names.
use Rattle.std.proofs.Common.{◌≡◌, ℕ, ◌*◌, ◌≤◌, All, inl, inr, Option, Some, None, refl, arith, unwrap_or, IfSome}
use Rattle.std.specs.Prelude.{ℤ, pos, ◌+ℤ◌, ◌-ℤ◌, ◌<ℤ◌, ◌≤ℤ◌}
use Rattle.std.proofs.lemmas.Int.{ints, by_lt_z}
use Rattle.zic_lines.specs.declared.rule_line.Rule.{Rule}
use Rattle.zic_source.specs.Sound.{IsSoundRule, IsWithinDay}
use Rattle.zic_states.specs.OccurrenceLaws.{IsLastOccurrence}
use Rattle.zic_states.specs.Listing.{IsLastNamed}
use Rattle.zic_states.specs.Occurrence.{RuleSet, IsMember, Occurrence, IsOccurrence, year_second}
use Rattle.zic_states.specs.Order.{IsInstant}
use Rattle.zic_states.proofs.Bounds.{years_apart, sound_rule, two_years, instant_near_nominal, instant_from, instant_to}
use Rattle.zic_states.proofs.Instants.{some_instant, instants_rise, last_not_after}
use Rattle.zic_states.specs.Tail.{IsContinuing}
use Rattle.zic_states.proofs.Ordered.{IsOrdered}
use Rattle.zic_states.proofs.TailYears.{next_near}

-- ---- years

abbrev pub rule_in : ℕ → Rule → ℤ → Occurrence
rule_in number rule year = record { number = number; rule = rule; year = year }

-- what ends after the last year named has no end
has_no_end : (last : Option ℕ) (first named : ℕ) (year : ℤ) → unwrap_or last first ≤ named → IfSome last (λ n. year ≤ℤ pos n)
    → pos named <ℤ year → last ≡ None
has_no_end None first named year le holds lt = refl
has_no_end (Some n) first named year le holds lt = absurd (omega (arith, ints, holds))

never_ends : (last : Option ℕ) (first named : ℕ) (year : ℤ) → last ≡ None → unwrap_or last first ≤ named → pos named ≤ℤ year
    → (pos first ≤ℤ year) × IfSome last (λ n. year ≤ℤ pos n)
never_ends None first named year none le after = (omega (arith, ints), tt)
never_ends (Some n) first named year none le after = absurd cc

-- of a set in order on a line of this standard offset, which names no year after this one
pub record IsNamedTo (set : RuleSet) (offset year : ℤ) : Type 0 where
  pub ordered : IsOrdered set offset
  pub named : ℕ
  pub last : IsLastNamed set named
  pub not_after : pos named ≤ℤ year

module _ (set : RuleSet) (offset year : ℤ) (given : IsNamedTo set offset year) where
  sound : All IsSoundRule set.rules
  sound = given.ordered.sound

  within : IsWithinDay offset
  within = given.ordered.within

  -- a rule that occurs after the year goes on for ever
  pub continues_after : (o : Occurrence) → IsOccurrence set o → year <ℤ o.year → IsContinuing o.rule
  continues_after o is after =
      let le = given.not_after in
      has_no_end o.rule.last o.rule.first given.named o.year (given.last.greatest o.number o.rule is.member) is.holds.not_over (omega (arith, ints))

  -- and one that does occurs in each later year
  pub occurs_after : (number : ℕ) (rule : Rule) (later : ℤ) → IsMember set number rule → IsContinuing rule → year ≤ℤ later
      → IsOccurrence set (rule_in number rule later)
  occurs_after number rule later member continues after =
      let le = given.not_after in
      let holds = never_ends rule.last rule.first given.named later continues (given.last.greatest number rule member) (omega (arith, ints)) in
      record { member = member; holds = record { begun = holds.0; not_over = holds.1 } }

  -- in the two years after the year it has instants at most 454 days apart
  pub two_instants : (number : ℕ) (rule : Rule) → IsMember set number rule → IsContinuing rule → (u v : ℤ)
      → IsInstant set offset (rule_in number rule (year +ℤ pos 1)) u → IsInstant set offset (rule_in number rule (year +ℤ pos 2)) v
      → v ≤ℤ (u +ℤ pos (454 * 86_400))
  two_instants number rule member continues u v at_u at_v =
      let one = occurs_after number rule (year +ℤ pos 1) member continues (omega (arith, ints)) in
      let two = occurs_after number rule (year +ℤ pos 2) member continues (omega (arith, ints)) in
      let apart = next_near rule (year +ℤ pos 1) (year +ℤ pos 2) (omega (arith, ints)) (sound_rule set (rule_in number rule (year +ℤ pos 1)) sound one) one.holds two.holds in
      let near_u = instant_near_nominal set offset (rule_in number rule (year +ℤ pos 1)) u sound within at_u in
      let near_v = instant_near_nominal set offset (rule_in number rule (year +ℤ pos 2)) v sound within at_v in
      omega (arith, ints)

  -- an occurrence of the year, or of an earlier one, is long past at the end
  pub past : (o : Occurrence) (u : ℤ) → IsOccurrence set o → IsInstant set offset o u → o.year ≤ℤ year
      → (u +ℤ pos (700 * 86_400)) ≤ℤ year_second (year +ℤ pos 3)
  past o u is at le =
      let to = instant_to set offset o u (o.year +ℤ pos 1) refl sound within is at in
      let one = years_apart (o.year +ℤ pos 1) (year +ℤ pos 2) (omega (arith, ints)) in
      let two = years_apart (year +ℤ pos 2) (year +ℤ pos 3) (omega (arith, ints)) in
      omega (arith, ints)

  module _ (number : ℕ) (rule : Rule) (member : IsMember set number rule) (continues : IsContinuing rule) where
    -- that of the next year is past too
    pub next_past : (u : ℤ) → IsInstant set offset (rule_in number rule (year +ℤ pos 1)) u → (u +ℤ pos (300 * 86_400)) ≤ℤ year_second (year +ℤ pos 3)
    next_past u at =
        let is = occurs_after number rule (year +ℤ pos 1) member continues (omega (arith, ints)) in
        let to = instant_to set offset (rule_in number rule (year +ℤ pos 1)) u (year +ℤ pos 2) (omega (arith, ints)) sound within is at in
        let apart = years_apart (year +ℤ pos 2) (year +ℤ pos 3) (omega (arith, ints)) in
        omega (arith, ints)

    -- so the last occurrence not after an instant from the end on is of a year after the year
    pub last_is_after : (t : ℤ) (o : Occurrence) (w : ℤ) → (year_second (year +ℤ pos 3) -ℤ pos 1) ≤ℤ t → IsLastOccurrence set offset t o w → year <ℤ o.year
    last_is_after t o w late last =
        let is_one = occurs_after number rule (year +ℤ pos 1) member continues (omega (arith, ints)) in
        let is_two = occurs_after number rule (year +ℤ pos 2) member continues (omega (arith, ints)) in
        let (u, at_u) = some_instant set offset (rule_in number rule (year +ℤ pos 1)) sound is_one in
        let (v, at_v) = some_instant set offset (rule_in number rule (year +ℤ pos 2)) sound is_two in
        let before = next_past u at_u in
        let not_later : u ≤ℤ w = last.last (rule_in number rule (year +ℤ pos 1)) u is_one at_u (omega (arith, ints)) in
        by_lt_z year o.year (λ lt. lt)
        (λ le.
        let gone = past o w last.is last.instant le in
        let near = two_instants number rule member continues u v at_u at_v in
        let not_past : v ≤ℤ w = last.last (rule_in number rule (year +ℤ pos 2)) v is_two at_v (omega (arith, ints)) in
        let less = two_years set o (rule_in number rule (year +ℤ pos 2)) sound last.is is_two (omega (arith, ints)) in
        let rise = instants_rise set offset o (rule_in number rule (year +ℤ pos 2)) w v sound given.ordered.order last.is is_two last.instant at_v less in
        absurd (omega (arith, ints)))

    pub some_last : (t : ℤ) → (year_second (year +ℤ pos 3) -ℤ pos 1) ≤ℤ t → (o : Occurrence) × (w : ℤ) × IsLastOccurrence set offset t o w
    some_last t late =
        elim (last_not_after set offset t sound within given.ordered.order) [
          | inl found ↦ found
          | inr none ↦
              let is = occurs_after number rule (year +ℤ pos 1) member continues (omega (arith, ints)) in
              let (u, at) = some_instant set offset (rule_in number rule (year +ℤ pos 1)) sound is in
              let before = next_past u at in
              let after = none (rule_in number rule (year +ℤ pos 1)) u is at in
              absurd (omega (arith, ints))
        ]

    -- it has an occurrence between the 22nd day after the year and the end
    pub own_instant : (later : ℤ) × (u : ℤ) × IsOccurrence set (rule_in number rule later) × IsInstant set offset (rule_in number rule later) u
        × ((year_second (year +ℤ pos 1) +ℤ pos (21 * 86_400)) ≤ℤ u) × (u <ℤ year_second (year +ℤ pos 3))
    own_instant =
        let is_one = occurs_after number rule (year +ℤ pos 1) member continues (omega (arith, ints)) in
        let is_two = occurs_after number rule (year +ℤ pos 2) member continues (omega (arith, ints)) in
        let (u, at_u) = some_instant set offset (rule_in number rule (year +ℤ pos 1)) sound is_one in
        let (v, at_v) = some_instant set offset (rule_in number rule (year +ℤ pos 2)) sound is_two in
        let before = next_past u at_u in
        by_lt_z u (year_second (year +ℤ pos 1) +ℤ pos (21 * 86_400))
        (λ early.
        let near = two_instants number rule member continues u v at_u at_v in
        let from = instant_from set offset (rule_in number rule (year +ℤ pos 2)) v sound within is_two at_v in
        let one = years_apart (year +ℤ pos 1) (year +ℤ pos 2) (omega (arith, ints)) in
        let two = years_apart (year +ℤ pos 2) (year +ℤ pos 3) (omega (arith, ints)) in
        (year +ℤ pos 2, v, is_two, at_v, omega (arith, ints), omega (arith, ints)))
        (λ late. (year +ℤ pos 1, u, is_one, at_u, late, omega (arith, ints)))
