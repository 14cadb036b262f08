-- Transitions as a file has them: times, and numbers of types.
use Rattle.std.proofs.Common.{◌≡◌, ℕ, suc, ◌<◌, ℤ, ◌<ℤ◌, ◌≤ℤ◌, true, false, List, [], ◌∷◌, map, length, All, AllPairs, refl, ap, arith, lt-ltb, ltb-true}
use Rattle.std.specs.Prelude.{int_lt, nat_lt}
use Rattle.std.specs.List.{list_all}
use Rattle.std.proofs.lemmas.Bool.{and_parts, and_from}
use Rattle.std.proofs.lemmas.Int.{ints, by_lt_z}
use Rattle.std.proofs.lemmas.List.Elements.{All-nil, All-cons, All-head, All-tail, All-map, All-weaker}
use Rattle.std.proofs.lemmas.List.Kept.{AllPairs-cons}
use Rattle.std.proofs.lemmas.List.Sums.{AllPass-from_list_all, list_all-from_AllPass}
use Rattle.zic_tzif.specs.declared.content.Change.{Change}
use Rattle.zic_tzif.specs.Block.{changes_at, do_rise}

-- ---- the test of an order of instants

test_less : (a b : ℤ) → a <ℤ b → int_lt a b ≡ true
test_less a b less = grind (arith, ints)

test_not_less : (a b : ℤ) → b ≤ℤ a → int_lt a b ≡ false
test_not_less a b not = grind (arith, ints)

pub less_by_test : (a b : ℤ) → int_lt a b ≡ true → a <ℤ b
less_by_test a b passes = by_lt_z a b (λ less. less) (λ not. absurd (let fails = test_not_less a b not in cc))

-- ---- pairs

pub AllPairs-first : {A : Type 0} (R : A → A → Type 0) (x : A) (xs : List A) → AllPairs R (x ∷ xs) → All (R x) xs
AllPairs-first R x xs pairs = λ k d within. pairs 0 (suc k) d (omega arith) (omega arith)

pub AllPairs-rest : {A : Type 0} (R : A → A → Type 0) (x : A) (xs : List A) → AllPairs R (x ∷ xs) → AllPairs R xs
AllPairs-rest R x xs pairs = λ i j d before within. pairs (suc i) (suc j) d (omega arith) (omega arith)

-- ---- times that rise

-- each time comes before all later ones, not only before the next
rise_parts : (time : ℤ) (times : List ℤ) → do_rise (time ∷ times) ≡ true → All (λ later. time <ℤ later) times × (do_rise times ≡ true)
rise_parts time [] rise = (All-nil (λ later. time <ℤ later), refl)
rise_parts time (next ∷ times) rise =
    let p = and_parts (int_lt time next) (do_rise (next ∷ times)) rise in
    let q = rise_parts next times p.1 in
    let less : time <ℤ next = less_by_test time next p.0 in (
      All-cons (λ later. time <ℤ later) next times less
          (All-weaker (λ later. next <ℤ later) (λ later. time <ℤ later) (λ later above. omega (arith, ints, less, above)) times q.0),
      p.1,
    )

after_all : (time : ℤ) (times : List ℤ) (numbers : List ℕ) → All (λ later. time <ℤ later) times → All (λ (c : Change). time <ℤ c.instant) (changes_at times numbers)
after_all time [] numbers each = All-nil (λ (c : Change). time <ℤ c.instant)
after_all time (next ∷ times) [] each = All-nil (λ (c : Change). time <ℤ c.instant)
after_all time (next ∷ times) (number ∷ numbers) each =
    All-cons (λ (c : Change). time <ℤ c.instant) (record { instant = next; number = number }) (changes_at times numbers)
    (All-head (λ later. time <ℤ later) next times each) (after_all time times numbers (All-tail (λ later. time <ℤ later) next times each))

-- transitions at times that rise do so
pub changes_rise : (times : List ℤ) (numbers : List ℕ) → do_rise times ≡ true → AllPairs (λ (a b : Change). a.instant <ℤ b.instant) (changes_at times numbers)
changes_rise [] numbers rise = λ i j d before within. absurd (omega arith)
changes_rise (time ∷ times) [] rise = λ i j d before within. absurd (omega arith)
changes_rise (time ∷ times) (number ∷ numbers) rise =
    let p = rise_parts time times rise in
    AllPairs-cons (λ (a b : Change). a.instant <ℤ b.instant) (record { instant = time; number = number }) (changes_at times numbers)
    (after_all time times numbers p.0) (changes_rise times numbers p.1)

-- times of transitions that rise do so
pub do_rise_again : (changes : List Change) → AllPairs (λ (a b : Change). a.instant <ℤ b.instant) changes → do_rise (map (λ c. c.instant) changes) ≡ true
do_rise_again [] pairs = refl
do_rise_again (a ∷ []) pairs = refl
do_rise_again (a ∷ b ∷ changes) pairs =
    let less : a.instant <ℤ b.instant = All-head (λ (c : Change). a.instant <ℤ c.instant) b changes (AllPairs-first (λ (a b : Change). a.instant <ℤ b.instant) a (b ∷ changes) pairs) in
    and_from (int_lt a.instant b.instant) (do_rise (map (λ c. c.instant) (b ∷ changes))) (test_less a.instant b.instant less)
    (do_rise_again (b ∷ changes) (AllPairs-rest (λ (a b : Change). a.instant <ℤ b.instant) a (b ∷ changes) pairs))

-- ---- numbers of types

numbers_below : (n : ℕ) (times : List ℤ) (numbers : List ℕ) → All (λ number. number < n) numbers → All (λ (c : Change). c.number < n) (changes_at times numbers)
numbers_below n [] numbers each = All-nil (λ (c : Change). c.number < n)
numbers_below n (time ∷ times) [] each = All-nil (λ (c : Change). c.number < n)
numbers_below n (time ∷ times) (number ∷ numbers) each =
    All-cons (λ (c : Change). c.number < n) (record { instant = time; number = number }) (changes_at times numbers)
    (All-head (λ number. number < n) number numbers each) (numbers_below n times numbers (All-tail (λ number. number < n) number numbers each))

-- transitions to numbers below the number of types have types
pub changes_have_types : (n : ℕ) (times : List ℤ) (numbers : List ℕ) → list_all (λ number. nat_lt number n) numbers ≡ true
    → All (λ (c : Change). c.number < n) (changes_at times numbers)
changes_have_types n times numbers passes =
    numbers_below n times numbers
    (All-weaker (λ number. nat_lt number n ≡ true) (λ number. number < n) (λ number below. ltb-true number n below) numbers
    (AllPass-from_list_all (λ number. nat_lt number n) numbers passes))

-- numbers of transitions that have types are below the number of types
pub numbers_again : (n : ℕ) (changes : List Change) → All (λ (c : Change). c.number < n) changes → list_all (λ number. nat_lt number n) (map (λ c. c.number) changes) ≡ true
numbers_again n changes each =
    list_all-from_AllPass (λ number. nat_lt number n) (map (λ c. c.number) changes)
    (All-map (λ number. nat_lt number n ≡ true) (λ (c : Change). c.number) changes
    (All-weaker (λ (c : Change). c.number < n) (λ (c : Change). nat_lt c.number n ≡ true) (λ c below. lt-ltb c.number n below) changes each))

-- ---- transitions and their parts

pub changes_length : (times : List ℤ) (numbers : List ℕ) → length times ≡ length numbers → length (changes_at times numbers) ≡ length times
changes_length [] numbers same = refl
changes_length (time ∷ times) [] same = absurd (omega arith)
changes_length (time ∷ times) (number ∷ numbers) same =
    let rest : length (changes_at times numbers) ≡ length times = changes_length times numbers (omega arith) in
    omega (arith, rest)

-- transitions are those at their times to their numbers
pub changes_again : (changes : List Change) → changes_at (map (λ c. c.instant) changes) (map (λ c. c.number) changes) ≡ changes
changes_again [] = refl
changes_again (c ∷ changes) = ap (λ (rest : List Change). c ∷ rest) (changes_again changes)
