-- After the last year that a set names, its occurrences come again after 400 years.
use Rattle.std.proofs.Common.{◌≡◌, ℕ, ◌≤◌, All, inl, inr, refl, arith, ℤ, pos, neg_ℤ, ◌+ℤ◌, ◌-ℤ◌, ◌<ℤ◌, ◌≤ℤ◌, Option, Some, None, unwrap_or, IfSome}
use Rattle.std.proofs.lemmas.Int.{ints, by_lt_z}
use Rattle.zic_lines.specs.declared.rule_line.Moment.{Moment}
use Rattle.zic_lines.specs.declared.clock.ClockForm.{ClockForm}
use Rattle.zic_lines.specs.declared.clock.ClockForm.TheVariants.{Wall, Standard, Universal}
use Rattle.zic_source.specs.Sound.{IsSoundRule}
use Rattle.zic_states.specs.Occurrence.{RuleSet, Occurrence, IsOccurrence, nominal, nominal_second}
use Rattle.zic_states.specs.Order.{IsPredecessor, IsInstant, instant_by}
use Rattle.zic_states.specs.Listing.{IsLastNamed}
use Rattle.zic_states.proofs.Bounds.{sound_rule, two_years, next_year, nominal_second-period}

-- the same rule in this year
abbrev pub in_year : ℤ → Occurrence → Occurrence
in_year year o = record o { year = year }

-- so many years move each nominal second by so many seconds
pub record IsShift (years seconds : ℤ) : Type 0 where
  pub moves : (y later : ℤ) (moment : Moment) → later ≡ y +ℤ years → nominal_second later moment ≡ nominal_second y moment +ℤ seconds

pub later_shift : IsShift (pos 400) (pos 12_622_780_800)
later_shift = record { moves = nominal_second-period }

pub sooner_shift : IsShift (neg_ℤ (pos 400)) (neg_ℤ (pos 12_622_780_800))
sooner_shift = record { moves = λ y later moment e. omega (arith, ints, nominal_second-period later y moment (omega (arith, ints))) }

-- a rule that holds in a year after L has no last year, and began by L
holds_on : (last : Option ℕ) (first L : ℕ) (y year : ℤ) → unwrap_or last first ≤ L → IfSome last (λ n. y ≤ℤ pos n) → pos L <ℤ y → pos L <ℤ year → (pos first ≤ℤ year) × IfSome last (λ n. year ≤ℤ pos n)
holds_on (Some n) first L y year named holds after there = absurd (omega (arith, ints, holds))
holds_on None first L y year named holds after there = (omega (arith, ints), tt)

-- a rule that occurs in a year after L occurs in each
pub occurs_again : (set : RuleSet) (L : ℕ) (o : Occurrence) (year : ℤ) → IsLastNamed set L → IsOccurrence set o → pos L <ℤ o.year → pos L <ℤ year → IsOccurrence set (in_year year o)
occurs_again set L o year last is after there =
    let holds = holds_on o.rule.last o.rule.first L o.year year (last.greatest o.number o.rule is.member) is.holds.not_over after there in
    record { member = is.member; holds = record { begun = holds.0; not_over = holds.1 } }

-- after L each occurrence comes after that of its rule the year before
pub year_before : (set : RuleSet) (L : ℕ) (o : Occurrence) (before : ℤ) → All IsSoundRule set.rules → IsLastNamed set L → IsOccurrence set o → o.year ≡ before +ℤ pos 1 → pos L <ℤ before → IsOccurrence set (in_year before o) × (nominal (in_year before o) <ℤ nominal o)
year_before set L o before sound last is e after =
    let there = occurs_again set L o before last is (omega (arith, ints)) after in
    (there, next_year o.rule before o.year e (sound_rule set o sound is) there.holds is.holds)

-- so the occurrence before it is at most two years earlier
pub predecessor_year : (set : RuleSet) (L : ℕ) (o p : Occurrence) → All IsSoundRule set.rules → IsLastNamed set L → IsOccurrence set o → IsPredecessor set o p → (pos L +ℤ pos 2) ≤ℤ o.year → o.year ≤ℤ (p.year +ℤ pos 2)
predecessor_year set L o p sound last is pred after =
    by_lt_z (p.year +ℤ pos 2) o.year
    (λ lt.
    let before = year_before set L o (o.year -ℤ pos 1) sound last is (omega (arith, ints)) (omega (arith, ints)) in
    let below = two_years set p (in_year (o.year -ℤ pos 1) o) sound pred.is before.0 (omega (arith, ints)) in
    absurd (omega (arith, ints, pred.greatest (in_year (o.year -ℤ pos 1) o) before.0 before.1)))
    (λ le. le)

-- Where an occurrence of a year after L + 1 comes before o, a shift keeps predecessors of o
predecessor_by : (set : RuleSet) (L : ℕ) (years seconds : ℤ) (o p w : Occurrence) (year year_p : ℤ) → All IsSoundRule set.rules → IsLastNamed set L → IsShift years seconds → IsPredecessor set o p → IsOccurrence set w → nominal w <ℤ nominal o → (pos L +ℤ pos 2) ≤ℤ w.year → (pos L +ℤ pos 2) ≤ℤ (w.year +ℤ years) → year ≡ o.year +ℤ years → year_p ≡ p.year +ℤ years → IsPredecessor set (in_year year o) (in_year year_p p)
predecessor_by set L years seconds o p w year year_p sound last shift pred is_w below from there e e_p =
    let year_w = w.year +ℤ years in
    let high = pred.greatest w is_w below in
    let near : w.year ≤ℤ (p.year +ℤ pos 1) = by_lt_z (p.year +ℤ pos 1) w.year
    (λ lt. absurd (omega (arith, ints, high, two_years set p w sound pred.is is_w (omega (arith, ints)))))
    (λ le. le) in
    let w_there = occurs_again set L w year_w last is_w (omega (arith, ints)) (omega (arith, ints)) in
    let moved = shift.moves o.year year o.rule.moment e in
    let moved_p = shift.moves p.year year_p p.rule.moment e_p in
    let moved_w = shift.moves w.year year_w w.rule.moment refl in
    record {
      is = occurs_again set L p year_p last pred.is (omega (arith, ints)) (omega (arith, ints));
      earlier = let less = pred.earlier in omega (arith, ints);
      greatest = λ q is_q less. by_lt_z q.year (year_w -ℤ pos 1)
          (λ lt.
          let low = two_years set q (in_year year_w w) sound is_q w_there (omega (arith, ints)) in
          omega (arith, ints))
          (λ ge.
          let back = occurs_again set L q (q.year -ℤ years) last is_q (omega (arith, ints)) (omega (arith, ints)) in
          let moved_q = shift.moves (q.year -ℤ years) q.year q.rule.moment (omega (arith, ints)) in
          let bound = pred.greatest (in_year (q.year -ℤ years) q) back (omega (arith, ints)) in
          omega (arith, ints));
    }

-- from L + 3 on a shift keeps predecessors
pub predecessor_moves : (set : RuleSet) (L : ℕ) (years seconds : ℤ) (o p : Occurrence) (year year_p : ℤ) → All IsSoundRule set.rules → IsLastNamed set L → IsShift years seconds → IsOccurrence set o → IsPredecessor set o p → (pos L +ℤ pos 3) ≤ℤ o.year → year ≡ o.year +ℤ years → (pos L +ℤ pos 3) ≤ℤ year → year_p ≡ p.year +ℤ years → IsPredecessor set (in_year year o) (in_year year_p p)
predecessor_moves set L years seconds o p year year_p sound last shift is pred from e there e_p =
    let before = year_before set L o (o.year -ℤ pos 1) sound last is (omega (arith, ints)) (omega (arith, ints)) in
    predecessor_by set L years seconds o p (in_year (o.year -ℤ pos 1) o) year year_p sound last shift pred before.0 before.1 (omega (arith, ints)) (omega (arith, ints)) e e_p

instant_by-moves : (form : ClockForm) (offset saved second seconds : ℤ) → instant_by form offset saved second +ℤ seconds ≡ instant_by form offset saved (second +ℤ seconds)
instant_by-moves Universal offset saved second seconds = refl
instant_by-moves Standard offset saved second seconds = omega (arith, ints)
instant_by-moves Wall offset saved second seconds = omega (arith, ints)

-- and moves instants with their nominal seconds
instant_from_earlier : (set : RuleSet) (offset : ℤ) (L : ℕ) (years seconds : ℤ) (o w : Occurrence) (t year : ℤ) → All IsSoundRule set.rules → IsLastNamed set L → IsShift years seconds → IsInstant set offset o t → IsOccurrence set w → nominal w <ℤ nominal o → (pos L +ℤ pos 2) ≤ℤ w.year → (pos L +ℤ pos 2) ≤ℤ (w.year +ℤ years) → year ≡ o.year +ℤ years → IsInstant set offset (in_year year o) (t +ℤ seconds)
instant_from_earlier set offset L years seconds o w t year sound last shift at is_w below from there e =
    record {
      saved = at.saved;
      is_saved = elim at.is_saved [
        | inl first ↦ absurd (omega (arith, ints, first.0 w is_w, below))
        | inr before ↦ inr (in_year (before.0.year +ℤ years) before.0, predecessor_by set L years seconds o before.0 w year (before.0.year +ℤ years) sound last shift before.1 is_w below from there e refl, before.2)
      ];
      is = rw (shift.moves o.year year o.rule.moment e, at.is) (instant_by-moves o.rule.moment.at.form offset at.saved (nominal o) seconds);
    }

pub instant_moves : (set : RuleSet) (offset : ℤ) (L : ℕ) (years seconds : ℤ) (o : Occurrence) (t year : ℤ) → All IsSoundRule set.rules → IsLastNamed set L → IsShift years seconds → IsOccurrence set o → IsInstant set offset o t → (pos L +ℤ pos 3) ≤ℤ o.year → year ≡ o.year +ℤ years → (pos L +ℤ pos 3) ≤ℤ year → IsInstant set offset (in_year year o) (t +ℤ seconds)
instant_moves set offset L years seconds o t year sound last shift is at from e there =
    let before = year_before set L o (o.year -ℤ pos 1) sound last is (omega (arith, ints)) (omega (arith, ints)) in
    instant_from_earlier set offset L years seconds o (in_year (o.year -ℤ pos 1) o) t year sound last shift at before.0 before.1 (omega (arith, ints)) (omega (arith, ints)) e

-- from L + 4 on it moves the predecessor's instant too: the rule of o occurs before the predecessor in a year after L + 1
pub predecessor_instant_moves : (set : RuleSet) (offset : ℤ) (L : ℕ) (years seconds : ℤ) (o p : Occurrence) (t year : ℤ) → All IsSoundRule set.rules → IsLastNamed set L → IsShift years seconds → IsOccurrence set o → IsPredecessor set o p → IsInstant set offset p t → (pos L +ℤ pos 4) ≤ℤ o.year → (pos L +ℤ pos 4) ≤ℤ (o.year +ℤ years) → year ≡ p.year +ℤ years → IsInstant set offset (in_year year p) (t +ℤ seconds)
predecessor_instant_moves set offset L years seconds o p t year sound last shift is pred at from there e =
    let one = year_before set L o (o.year -ℤ pos 1) sound last is (omega (arith, ints)) (omega (arith, ints)) in
    let two = year_before set L (in_year (o.year -ℤ pos 1) o) (o.year -ℤ pos 2) sound last one.0 (omega (arith, ints)) (omega (arith, ints)) in
    let high = pred.greatest (in_year (o.year -ℤ pos 1) o) one.0 one.1 in
    instant_from_earlier set offset L years seconds p (in_year (o.year -ℤ pos 2) o) t year sound last shift at two.0 (omega (arith, ints, two.1, high)) (omega (arith, ints)) (omega (arith, ints)) e
