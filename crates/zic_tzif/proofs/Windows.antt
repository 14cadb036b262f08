-- Windows of a search among times that rise.
use Rattle.std.proofs.Common.{◌≡◌, ℕ, ◌+◌, ◌-◌, ◌*◌, ◌<◌, ◌≤◌, ◌^◌, ◌⊎◌, ℤ, pos, ◌<ℤ◌, ◌≤ℤ◌, inl, inr, List, length, get_or, AllPairs, Bool, true, false, sym, subst, arith}
use Rattle.std.specs.Prelude.{int_le}
use Rattle.std.proofs.lemmas.List.{get_or_default}
use Rattle.std.proofs.lemmas.Bool.{cases_lt}
use Rattle.std.proofs.lemmas.Int.{ints}
use Rattle.std.proofs.lemmas.Nat.{pow-add, pow_pos}
use borrow.Author.Differences.{le-true, le-false}
use mir.Val.{bool_byte}
use Rattle.zic_tzif.specs.code.Window.{IsSplit, AreLevels, IsWindow}

double : (level : ℕ) → 2 ^ (level + 1) ≡ 2 ^ level + 2 ^ level
double level = let e = pow-add 2 level 1 in omega (arith, e)

-- what the test at a place says
passes_at : (times : List ℤ) (t : ℤ) (place : ℕ) (e : ℤ) → place < length times → int_le (get_or times place e) t ≡ true → (d : ℤ) → get_or times place d ≤ℤ t
passes_at times t place e within passes d =
    let here : get_or times place e ≤ℤ t = omega (arith, ints, le-true (get_or times place e) t passes) in
    subst (λ (z : ℤ). z ≤ℤ t) (get_or_default times place e d within) here

fails_at : (times : List ℤ) (t : ℤ) (place : ℕ) (e : ℤ) → place < length times → int_le (get_or times place e) t ≡ false → (d : ℤ) → t <ℤ get_or times place d
fails_at times t place e within fails d =
    let here : t <ℤ get_or times place e = omega (arith, ints, le-false (get_or times place e) t fails) in
    subst (λ (z : ℤ). t <ℤ z) (get_or_default times place e d within) here

module _ (times : List ℤ) (t : ℤ) (rising : AllPairs (λ a b. a <ℤ b) times) where
  -- what stands before a time that isn't after t
  up_to : (place : ℕ) → place < length times → ((d : ℤ) → get_or times place d ≤ℤ t) → (k : ℕ) → k ≤ place → (d : ℤ) → get_or times k d ≤ℤ t
  up_to place inside here k before d = elim (cases_lt k place) [
    | inl less ↦ let lower : get_or times k d <ℤ get_or times place d = rising k place d less inside in let top : get_or times place d ≤ℤ t = here d in omega (arith, ints, lower, top)
    | inr not ↦ let same : place ≡ k = omega (arith, before, not) in subst (λ (n : ℕ). get_or times n d ≤ℤ t) same (here d)
  ]

  -- and after one that is
  from : (place : ℕ) → ((d : ℤ) → t <ℤ get_or times place d) → (k : ℕ) → place ≤ k → k < length times → (d : ℤ) → t <ℤ get_or times k d
  from place here k following inside d = elim (cases_lt place k) [
    | inl less ↦ let higher : get_or times place d <ℤ get_or times k d = rising place k d less inside in let low : t <ℤ get_or times place d = here d in omega (arith, ints, higher, low)
    | inr not ↦ let same : place ≡ k = omega (arith, following, not) in subst (λ (n : ℕ). t <ℤ get_or times n d) same (here d)
  ]

  -- where the time before a place has come, and the one at it hasn't, the times pass
  pub split_at : (place : ℕ) → place ≤ length times → (0 < place → get_or times (place - 1) (pos 0) ≤ℤ t)
      → (place ≡ length times) ⊎ (t <ℤ get_or times place (pos 0)) → IsSplit times t place
  split_at place inside come to_come = record {
    inside = inside;
    not_after = λ k below d.
        let within : place - 1 < length times = omega (arith, below, inside) in
        let here = λ (e : ℤ). subst (λ (z : ℤ). z ≤ℤ t) (get_or_default times (place - 1) (pos 0) e within) (come (omega (arith, below))) in
        up_to (place - 1) within here k (omega (arith, below)) d;
    after = λ k following last d. elim to_come [
      | inl end ↦ absurd (omega (arith, following, last, end))
      | inr after ↦
          let there = λ (e : ℤ). subst (λ (z : ℤ). t <ℤ z) (get_or_default times place (pos 0) e (let h : place < length times = omega (arith, following, last) in h)) after in
          from place there k following last d
    ];
  }

  upper_half : (base level place : ℕ) → IsWindow times t base (level + 1) → place + 1 ≡ base + 2 ^ level → ((d : ℤ) → get_or times place d ≤ℤ t) → IsWindow times t (base + 2 ^ level) level
  upper_half base level place window is here =
      let twice = double level in
      let inside = window.inside in
      let positive = pow_pos level in
      let within : place < length times = omega (arith, inside, twice, is, positive) in
      record {
        inside = omega (arith, inside, twice);
        not_after = λ k below d. up_to place within here k (omega (arith, below, is)) d;
        after = λ k following last d. window.after k (omega (arith, following, twice)) last d;
      }

  lower_half : (base level place : ℕ) → IsWindow times t base (level + 1) → place + 1 ≡ base + 2 ^ level → ((d : ℤ) → t <ℤ get_or times place d) → IsWindow times t base level
  lower_half base level place window is here =
      let twice = double level in
      let inside = window.inside in
      record {
        inside = omega (arith, inside, twice);
        not_after = window.not_after;
        after = λ k following last d. from place here k (omega (arith, following, is)) last d;
      }

  pub last_window : (levels place base : ℕ) (e : ℤ) → AreLevels levels (length times) → place + 1 ≡ 2 ^ levels → place < length times → int_le (get_or times place e) t ≡ true
      → base + 2 ^ levels ≡ length times + 1 → IsWindow times t base levels
  last_window levels place base e are is within passes end =
      let enough = are.enough in
      let here = passes_at times t place e within passes in
      record {
        inside = omega (arith, end);
        not_after = λ k below d. up_to place within here k (omega (arith, below, is, end, enough)) d;
        after = λ k following last d. absurd (omega (arith, following, last, end));
      }

  pub front_window : (levels place : ℕ) (e : ℤ) → AreLevels levels (length times) → place + 1 ≡ 2 ^ levels → (place < length times → int_le (get_or times place e) t ≡ false) → IsWindow times t 0 levels
  front_window levels place e are is fails =
      let within = are.within in
      record {
        inside = omega (arith, within);
        not_after = λ k below. absurd (omega (arith, below));
        after = λ k following last d. from place (let inside : place < length times = omega (arith, following, last, is) in fails_at times t place e inside (fails inside)) k (omega (arith, following, is)) last d;
      }

  -- the half by the test at its last place
  pub half_by : (base level place : ℕ) (e : ℤ) (passes : Bool) → IsWindow times t base (level + 1) → place + 1 ≡ base + 2 ^ level → int_le (get_or times place e) t ≡ passes
      → IsWindow times t (base + bool_byte passes * 2 ^ level) level
  half_by base level place e true window is test =
      let inside = window.inside in
      let within : place < length times = omega (arith, inside, double level, is, pow_pos level) in
      let same : base + 1 * 2 ^ level ≡ base + 2 ^ level = omega arith in
      subst (λ (n : ℕ). IsWindow times t n level) (sym same) (upper_half base level place window is (passes_at times t place e within test))
  half_by base level place e false window is test =
      let inside = window.inside in
      let within : place < length times = omega (arith, inside, double level, is, pow_pos level) in
      let same : base + 0 * 2 ^ level ≡ base = omega arith in
      subst (λ (n : ℕ). IsWindow times t n level) (sym same) (lower_half base level place window is (fails_at times t place e within test))

-- a window of one place
pub found : (times : List ℤ) (t : ℤ) (base : ℕ) → IsWindow times t base 0 → IsSplit times t base
found times t base window =
    let inside = window.inside in
    record {
      inside = omega (arith, inside);
      not_after = window.not_after;
      after = λ k following last d. window.after k (omega (arith, following)) last d;
    }

-- ---- times that were read

pub rises : (read times : List ℤ) → read ≡ times → AllPairs (λ (a b : ℤ). a <ℤ b) times → AllPairs (λ (a b : ℤ). a <ℤ b) read
rises read times same rising = subst (λ (xs : List ℤ). AllPairs (λ (a b : ℤ). a <ℤ b) xs) (sym same) rising

pub split_of : (read times : List ℤ) (u t : ℤ) (count : ℕ) → read ≡ times → u ≡ t → IsSplit read u count → IsSplit times t count
split_of read times u t count same at split = subst (λ (xs : List ℤ). IsSplit xs t count) same (subst (λ (z : ℤ). IsSplit read z count) at split)
