-- A task has one answer.
use Rattle.std.proofs.Common.{◌≡◌, ℕ, zero, suc, ◌<◌, List, [], ◌∷◌, length, Result, Ok, Err, refl, sym, subst, arith}
use mathlib.Core.Option.{some}
use mathlib.Core.Logic.{dite}
use native.Mathlib.Decide.{ℕ_discrete, dec_le}
use lib.ListN.{get_elem?}
use Rattle.zic_pieces.specs.declared.task.TaskStop.{TaskStop}
use Rattle.zic_pieces.specs.declared.task.TaskStop.TheVariants.{Fault, Memory, NoThread}
use Rattle.zic_pieces.specs.Task.{HaveValues, AreValues, IsStop}
use Rattle.zic_pieces.specs.Laws.{HasOneOutcomeEach, IsSequential, HasAtMostOneAnswer}

module _ {X : Type 0} where
  -- an item stands at each place below the length
  item : (xs : List X) (i : ℕ) → i < length xs → (x : X) × (get_elem? xs i ≡ some x)
  item [] i low = absurd (omega arith)
  item (x ∷ xs) zero low = (x, refl)
  item (x ∷ xs) (suc i) low = item xs i (omega arith)

  -- two lists of one length are one where what stands at a place is one
  same_items : (P : ℕ → X → Type 0) (xs ys : List X) → ((i : ℕ) → i < length xs → (x y : X) → P i x → P i y → x ≡ y)
      → length xs ≡ length ys → ((i : ℕ) (x : X) → get_elem? xs i ≡ some x → P i x)
      → ((i : ℕ) (x : X) → get_elem? ys i ≡ some x → P i x) → xs ≡ ys
  same_items P [] [] one same p q = refl
  same_items P [] (y ∷ ys) one same p q = absurd (omega arith)
  same_items P (x ∷ xs) [] one same p q = absurd (omega arith)
  same_items P (x ∷ xs) (y ∷ ys) one same p q =
      let head : x ≡ y = one 0 (omega arith) x y (p 0 x refl) (q 0 y refl) in
      let tail : xs ≡ ys = same_items (λ i. P (suc i)) xs ys (λ i low. one (suc i) (omega (arith, low))) (omega (arith, same)) (λ i. p (suc i)) (λ i. q (suc i)) in
      λ k. head k ∷ tail k

module _ {X F : Type 0} (o : ℕ → Result X F → Type 0) (n : ℕ) (one : HasOneOutcomeEach o n) where
  one_value : (i : ℕ) → i < n → (x y : X) → o i (Ok x) → o i (Ok y) → x ≡ y
  one_value i low x y p q = let e : ◌≡◌ {A = Result X F} (Ok x) (Ok y) = one i low (Ok x) (Ok y) p q in cc

  one_fault : (i : ℕ) → i < n → (f g : F) → o i (Err f) → o i (Err g) → f ≡ g
  one_fault i low f g p q = let e : ◌≡◌ {A = Result X F} (Err f) (Err g) = one i low (Err f) (Err g) p q in cc

  never_both : (i : ℕ) → i < n → (x : X) (f : F) → o i (Ok x) → o i (Err f) → ⊥
  never_both i low x f p q = let e : ◌≡◌ {A = Result X F} (Ok x) (Err f) = one i low (Ok x) (Err f) p q in absurd (cc)

  no_fault : (xs : List X) (i : ℕ) (f : F) → AreValues o n xs → IsStop o n (Fault i f) → ⊥
  no_fault xs i f are is =
      let len = are.0 in
      let low = is.0 in
      let x = item xs i (omega arith) in
      never_both i low x.0 f (are.1 i x.0 x.1) is.2

  one_stop : (i j : ℕ) (f g : F) → IsStop o n (Fault i f) → IsStop o n (Fault j g) → i ≡ j
  one_stop i j f g p q = dite (ℕ_discrete i j) (λ same. same)
      (λ differ. dite (dec_le i j)
      (λ le. let v = q.1 i (omega arith) in let low = p.0 in absurd (never_both i low v.0 f v.1 p.2))
      (λ gt. let v = p.1 j (omega arith) in let low = q.0 in absurd (never_both j low v.0 g v.1 q.2)))

  pub one_answer : (a b : Result (List X) (TaskStop F)) → IsSequential o n a → IsSequential o n b → a ≡ b
  one_answer (Ok xs) (Ok ys) p q =
      let len = p.0 in
      let len' = q.0 in
      let same : xs ≡ ys = same_items (λ i x. o i (Ok x)) xs ys (λ i low. one_value i (omega (arith, low, len))) (omega (arith, len, len')) p.1 q.1 in
      λ k. Ok (same k)
  one_answer (Ok xs) (Err (Fault j g)) p q = absurd (no_fault xs j g p q)
  one_answer (Ok xs) (Err (Memory m)) p q = absurd q
  one_answer (Ok xs) (Err NoThread) p q = absurd q
  one_answer (Err (Fault i f)) (Ok ys) p q = absurd (no_fault ys i f q p)
  one_answer (Err (Fault i f)) (Err (Fault j g)) p q =
      let same = one_stop i j f g p q in
      let fault : f ≡ g = one_fault i p.0 f g p.2 (subst (λ k. o k (Err g)) (sym same) q.2) in
      λ k. Err (Fault (same k) (fault k))
  one_answer (Err (Fault i f)) (Err (Memory m)) p q = absurd q
  one_answer (Err (Fault i f)) (Err NoThread) p q = absurd q
  one_answer (Err (Memory m)) b p q = absurd p
  one_answer (Err NoThread) b p q = absurd p

pub has_one_answer : {X F : Type 0} → (o : ℕ → Result X F → Type 0) (n : ℕ) → HasAtMostOneAnswer o n
has_one_answer o n one = one_answer o n one
