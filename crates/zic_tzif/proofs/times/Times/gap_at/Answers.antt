use Rattle.std.proofs.Common.{◌≡◌, ℕ, ◌-◌, ◌<◌, ℤ, pos, ◌-ℤ◌, ◌<ℤ◌, inl, inr, List, get_or, length, FitsSigned, w64, to_z, of_z, to_z-of_z, refl, sym, ap, subst, ◌∙◌, arith, rules}
use Rattle.std.proofs.lemmas.Int.{ints}
use Rattle.zic_posix.specs.declared.span.TheConstants.{MAX_INSTANT}
use Rattle.zic_tzif.specs.code.Window.{IsSplit}
use Rattle.zic_tzif.proofs.Gaps.{IsFirst, IsLast, requested, between}
use Rattle.zic_tzif.proofs.times.Times.gap_at.Goals as goal
use Rattle.zic_tzif.proofs.times.Times.gap_at.Goals.{then-count-eq0, else-count-eq0}

first_from : (times read : List ℤ) (n : ℕ) (first : ℤ) → read ≡ times → (n ≡ 0 → ⊥) → FitsSigned w64 (get_or read (n - 1) (pos 0)) → first ≡ to_z w64 (of_z w64 (get_or read (n - 1) (pos 0))) → IsFirst times n first
first_from times read n first same some fits is =
    inr (n - 1, omega (arith, some), subst (λ (xs : List ℤ). first ≡ get_or xs (n - 1) (pos 0)) same (is ∙ to_z-of_z fits))

-- the next time less one fits, since it comes after an instant
last_from : (next t : ℤ) → FitsSigned w64 next → FitsSigned w64 t → t <ℤ next → to_z w64 (of_z w64 (to_z w64 (of_z w64 next) -ℤ pos 1)) ≡ next -ℤ pos 1
last_from next t fits t_fits after = omega (arith, ints)

last_fits : (next t : ℤ) → FitsSigned w64 next → FitsSigned w64 t → t <ℤ next → FitsSigned w64 (to_z w64 (of_z w64 next) -ℤ pos 1)
last_fits next t fits t_fits after = omega (arith, ints)

pub overflow_sub-last : goal.overflow_sub-last
overflow_sub-last c =
    let times = c.args.self.now.times.items in
    let read = c.as_slice-times.result.now in
    let same : read ≡ times = c.as_slice-times.ensures.value in
    let n = c.count_not_after-count.result in
    let t = c.args.t in
    let split = subst (λ (z : ℤ). IsSplit times z n) (to_z-of_z c.ranges.t) c.count_not_after-count.ensures in
    let inside = split.inside in
    let long = ap (λ (xs : List ℤ). length xs) same in
    let passed = c.if-count-times.false in
    let more : n < length times = omega (arith, inside, passed, long) in
    let within : n < length read = omega (arith, more, long) in
    let next : FitsSigned w64 (get_or read n (pos 0)) = search rules in
    let after = subst (λ (xs : List ℤ). t <ℤ get_or xs n (pos 0)) (sym same) (split.after n (omega arith) more (pos 0)) in
    last_fits (get_or read n (pos 0)) t next c.ranges.t after

pub returns-then-count-times : goal.returns-then-count-times
returns-then-count-times c =
    let times = c.args.self.now.times.items in
    let read = c.as_slice-times.result.now in
    let same : read ≡ times = c.as_slice-times.ensures.value in
    let n = c.count_not_after-count.result in
    let t = c.args.t in
    let split = subst (λ (z : ℤ). IsSplit times z n) (to_z-of_z c.ranges.t) c.count_not_after-count.ensures in
    let inside = split.inside in
    let long = ap (λ (xs : List ℤ). length xs) same in
    let first : IsFirst times n (to_z w64 c.if-count-eq0.first-bits) = elim c.if-count-eq0.branch [
      | then-count-eq0 w ↦ inl (w.if-count-eq0.true, w.first-is)
      | else-count-eq0 w ↦
          let some = w.if-count-eq0.false in
          let within : n - 1 < length read = omega (arith, some, inside, long) in
          let member : FitsSigned w64 (get_or read (n - 1) (pos 0)) = search rules in
          first_from times read n (to_z w64 c.if-count-eq0.first-bits) same some member w.first-is
    ] in
    let last : IsLast times n MAX_INSTANT = inl (c.if-count-times.true ∙ long, refl) in
    record {
      count = split;
      requested = requested times t n _ c.requires split c.ranges.t first last;
      between = between times t n _ c.requires split c.ranges.t first last;
    }

pub returns-else-count-times : goal.returns-else-count-times
returns-else-count-times c =
    let times = c.args.self.now.times.items in
    let read = c.as_slice-times.result.now in
    let same : read ≡ times = c.as_slice-times.ensures.value in
    let n = c.count_not_after-count.result in
    let t = c.args.t in
    let split = subst (λ (z : ℤ). IsSplit times z n) (to_z-of_z c.ranges.t) c.count_not_after-count.ensures in
    let inside = split.inside in
    let long = ap (λ (xs : List ℤ). length xs) same in
    let first : IsFirst times n (to_z w64 c.if-count-eq0.first-bits) = elim c.if-count-eq0.branch [
      | then-count-eq0 w ↦ inl (w.if-count-eq0.true, w.first-is)
      | else-count-eq0 w ↦
          let some = w.if-count-eq0.false in
          let within : n - 1 < length read = omega (arith, some, inside, long) in
          let member : FitsSigned w64 (get_or read (n - 1) (pos 0)) = search rules in
          first_from times read n (to_z w64 c.if-count-eq0.first-bits) same some member w.first-is
    ] in
    let passed = c.if-count-times.false in
    let more : n < length times = omega (arith, inside, passed, long) in
    let within : n < length read = omega (arith, more, long) in
    let next : FitsSigned w64 (get_or read n (pos 0)) = search rules in
    let after = subst (λ (xs : List ℤ). t <ℤ get_or xs n (pos 0)) (sym same) (split.after n (omega arith) more (pos 0)) in
    let last : IsLast times n (to_z w64 (of_z w64 (to_z w64 (of_z w64 (get_or read n (pos 0))) -ℤ pos 1))) =
    inr (more, last_from (get_or read n (pos 0)) t next c.ranges.t after ∙ ap (λ (xs : List ℤ). get_or xs n (pos 0) -ℤ pos 1) same) in
    record {
      count = split;
      requested = requested times t n _ c.requires split c.ranges.t first last;
      between = between times t n _ c.requires split c.ranges.t first last;
    }
