use Rattle.std.proofs.Common.{◌≡◌, ℤ, pos, neg_ℤ, ◌+ℤ◌, refl, subst, arith}
use Rattle.std.proofs.lemmas.Int.{ints}
use Rattle.zic_states.specs.Order.{IsInstant}
use Rattle.zic_states.proofs.Bounds.{nominal_second-period}
use Rattle.zic_states.proofs.Shift.{in_year, occurs_again, later_shift, sooner_shift, predecessor_moves, instant_moves, predecessor_instant_moves}
use Rattle.zic_states.proofs.occurrence_laws.instants_repeat_after_last.Goals as goal

back : (t : ℤ) → t +ℤ pos 12_622_780_800 +ℤ neg_ℤ (pos 12_622_780_800) ≡ t
back t = omega (arith, ints)

pub returns : goal.returns
returns c = record {
  occurrences = occurs_again;
  nominals = λ o. nominal_second-period o.year (o.year +ℤ pos 400) o.rule.moment refl;
  instants = λ set offset last o t sound named is from.
      let later = o.year +ℤ pos 400 in
      let is_later = occurs_again set last o later named is (omega (arith, ints)) (omega (arith, ints)) in (
        λ at. instant_moves set offset last (pos 400) (pos 12_622_780_800) o t later sound named later_shift is at from refl (omega (arith, ints)),
        λ at. subst (IsInstant set offset o) (back t) (instant_moves set offset last (neg_ℤ (pos 400)) (neg_ℤ (pos 12_622_780_800)) (in_year later o) (t +ℤ pos 12_622_780_800) o.year sound named sooner_shift is_later at (omega (arith, ints)) (omega (arith, ints)) from),
      );
  predecessors = λ set last o p sound named is from.
      let later = o.year +ℤ pos 400 in
      let later_p = p.year +ℤ pos 400 in
      let is_later = occurs_again set last o later named is (omega (arith, ints)) (omega (arith, ints)) in (
        λ pred. predecessor_moves set last (pos 400) (pos 12_622_780_800) o p later later_p sound named later_shift is pred from refl (omega (arith, ints)) refl,
        λ pred. predecessor_moves set last (neg_ℤ (pos 400)) (neg_ℤ (pos 12_622_780_800)) (in_year later o) (in_year later_p p) o.year p.year sound named sooner_shift is_later pred (omega (arith, ints)) (omega (arith, ints)) from (omega (arith, ints)),
      );
  predecessor_instants = λ set offset last o p t sound named is from pred.
      let later = o.year +ℤ pos 400 in
      let later_p = p.year +ℤ pos 400 in
      let is_later = occurs_again set last o later named is (omega (arith, ints)) (omega (arith, ints)) in
      let pred_later = predecessor_moves set last (pos 400) (pos 12_622_780_800) o p later later_p sound named later_shift is pred (omega (arith, ints)) refl (omega (arith, ints)) refl in (
        λ at. predecessor_instant_moves set offset last (pos 400) (pos 12_622_780_800) o p t later_p sound named later_shift is pred at (omega (arith, ints)) (omega (arith, ints)) refl,
        λ at. subst (IsInstant set offset p) (back t) (predecessor_instant_moves set offset last (neg_ℤ (pos 400)) (neg_ℤ (pos 12_622_780_800)) (in_year later o) (in_year later_p p) (t +ℤ pos 12_622_780_800) p.year sound named sooner_shift is_later pred_later at (omega (arith, ints)) (omega (arith, ints)) (omega (arith, ints))),
      );
}
