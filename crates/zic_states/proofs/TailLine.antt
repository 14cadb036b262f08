-- The last line of a zone governs from its start on, and what it keeps the zone keeps.
use Rattle.std.proofs.Common.{◌≡◌, ℕ, zero, suc, false, List, None, sym, subst, arith}
use Rattle.std.specs.Prelude.{ℤ, pos, ◌+ℤ◌, ◌-ℤ◌, ◌≤ℤ◌}
use Rattle.std.proofs.lemmas.Int.{ints, clamps}
use Rattle.zic_lines.specs.declared.rule_line.Rule.{Rule}
use Rattle.zic_lines.specs.declared.rules.Rules.{Rules}
use Rattle.zic_lines.specs.declared.rules.Rules.TheVariants.{Standard, Amount, Set}
use Rattle.zic_lines.specs.declared.zone_line.ZoneLine.{ZoneLine}
use Rattle.zic_states.proofs.Bounds.{years_apart}
use Rattle.zic_states.specs.End.{IsLastLine, IsEndBy, IsEnd}
use Rattle.zic_states.specs.InForce.{InForce, RulesHaveInForce}
use Rattle.zic_states.specs.Laws.{HasSetsInOrder, IsOrderly}
use Rattle.zic_states.specs.Tail.{HasNoSet, HasJustInForce, HasInForceFrom}
use Rattle.zic_states.specs.Zone.{Zone, HasBegun, Governs, HasInForce}
use Rattle.zic_states.proofs.Governing.{one_line}
use Rattle.zic_states.proofs.InForce.{one_in_force}
use Rattle.zic_states.proofs.Lines.{always_not_over, last_line}
use Rattle.zic_states.proofs.Orders.{same_number}
use Rattle.zic_states.proofs.SomeInForce.{some_in_force}

-- ---- it governs

pub governs_from_start : (zone : Zone) (i : ℕ) (line : ZoneLine) (t : ℤ) → IsLastLine zone i line → HasBegun zone i t → Governs zone i line t
governs_from_start zone i line t last begun =
    record { is_line = last.is_line; begun = begun; not_over = always_not_over zone line t last.no_until }

pub begun_later : (zone : Zone) (i : ℕ) (start t : ℤ) → HasBegun zone i start → start ≤ℤ t → HasBegun zone i t
begun_later zone zero start t begun le = tt
begun_later zone (suc i) start t (s, ends, begun) le = (s, ends, omega (arith, ints))

begun_by : (zone : Zone) (i : ℕ) (says : Rules) (end t : ℤ) → IsEndBy zone i says end → (end -ℤ pos 1) ≤ℤ t → HasBegun zone i t
begun_by zone zero says end t by le = tt
begun_by zone (suc i) Standard end t (start, ends, is) le = (start, ends, omega (arith, ints))
begun_by zone (suc i) (Amount saving) end t (start, ends, is) le = (start, ends, omega (arith, ints))
begun_by zone (suc i) (Set name) end t (year, (named, last, start, ends, of_start, lies, greatest), is) le =
    let not_after : of_start ≤ℤ year = omega (arith, ints, clamps) in
    let before = lies.not_over in
    let apart = years_apart (of_start +ℤ pos 1) (year +ℤ pos 3) (omega (arith, ints)) in
    (start, ends, omega (arith, ints))

pub governs_from_end : (zone : Zone) → HasSetsInOrder zone → (i : ℕ) (line : ZoneLine) (end t : ℤ) → IsLastLine zone i line
    → IsEnd zone end → (end -ℤ pos 1) ≤ℤ t → Governs zone i line t
governs_from_end zone sets i line end t last (j, other, last', by) le =
    let same = same_number i j
    (last_line zone sets i j line other last.is_line last'.is_line last.no_until)
    (last_line zone sets j i other line last'.is_line last.is_line last'.no_until) in
    governs_from_start zone i line t last (subst (λ (n : ℕ). HasBegun zone n t) (sym same) (begun_by zone j other.rules end t by le))

-- ---- what it keeps

module _ (zone : Zone) (orderly : IsOrderly zone) (i : ℕ) (line : ZoneLine) (last : IsLastLine zone i line) where
  -- what the line keeps, the zone does, and nothing else
  pub has_just : (t : ℤ) (in_force : InForce) → HasBegun zone i t → HasInForce zone i line t in_force → HasJustInForce zone t line in_force
  has_just t in_force begun keeps =
      let governs = governs_from_start zone i line t last begun in
      record {
        keeps = record { number = i; governs = governs; keeps = keeps };
        only = λ other thing by.
            let (number, same) = one_line zone orderly t by.number i other line by.governs governs in
            let by_number = subst (λ (n : ℕ). HasInForce zone n other t thing) number by.keeps in
            let by_line = subst (λ (l : ZoneLine). HasInForce zone i l t thing) same by_number in
            (same, one_in_force zone orderly.sets i line t thing in_force last.is_line by_line keeps);
      }

-- ---- without a set

fixed : Rules → InForce
fixed Standard = record { saving = pos 0; daylight = false; letter = None }
fixed (Amount saving) = record { saving = saving.seconds; daylight = saving.daylight; letter = None }
fixed (Set name) = record { saving = pos 0; daylight = false; letter = None }

is_fixed : (rules : List Rule) (line : ZoneLine) (says : Rules) (IsSuch : ℤ → Type 0) (in_force : InForce) → HasNoSet says
    → RulesHaveInForce rules line says IsSuch in_force → in_force ≡ fixed says
unfolding fixed
is_fixed rules line Standard IsSuch in_force none e = e
is_fixed rules line (Amount saving) IsSuch in_force none e = e
is_fixed rules line (Set name) IsSuch in_force none e = absurd none

has_fixed : (zone : Zone) (i : ℕ) (line : ZoneLine) (t : ℤ) (in_force : InForce) → HasNoSet line.rules → HasInForce zone i line t in_force → in_force ≡ fixed line.rules
unfolding HasInForce
has_fixed zone zero line t in_force none keeps = is_fixed zone.source.rules line line.rules _ in_force none keeps
has_fixed zone (suc i) line t in_force none (end, window, keeps) = is_fixed zone.source.rules line line.rules _ in_force none keeps

pub fixed_tail : (zone : Zone) → IsOrderly zone → (i : ℕ) (line : ZoneLine) → IsLastLine zone i line → HasNoSet line.rules
    → (in_force : InForce) × ((start : ℤ) → HasBegun zone i start → HasInForceFrom zone start line in_force)
fixed_tail zone orderly i line last none = (
  fixed line.rules,
  λ start begun t le.
      let (in_force, keeps) = some_in_force zone orderly.sets i line t last.is_line in
      let same = has_fixed zone i line t in_force none keeps in
      has_just zone orderly i line last t (fixed line.rules) (begun_later zone i start t begun le)
      (subst (λ (k : InForce). HasInForce zone i line t k) same keeps),
)
