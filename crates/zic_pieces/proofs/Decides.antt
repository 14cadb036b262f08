-- What the workers' work comes to, once their claims are settled.
use Rattle.std.proofs.Common.{◌≡◌, ℕ, ◌<◌, ◌≤◌, List, Option, Some, None, Result, sym, ◌∙◌, subst, ⊎_elim, arith}
use Rattle.zic_pieces.specs.declared.pass.Event.{Event}
use Rattle.zic_pieces.specs.declared.task.PieceStop.{PieceStop}
use Rattle.zic_pieces.specs.Events.{times}
use Rattle.zic_pieces.specs.Given.{given}
use Rattle.zic_pieces.specs.Passes.{Shared, Held, IsOf}
use Rattle.zic_pieces.specs.Settlement.{IsLeast}
use Rattle.zic_pieces.specs.declared.task.PieceStop.TheVariants.{Fault, Memory}
use Rattle.zic_pieces.specs.code.Stop.{the_stop}
use Rattle.zic_pieces.specs.Task.{IsReason, HaveValues, AreValues, IsStop}
use Rattle.zic_pieces.specs.code.Work.{HasValueAt, IsWork}
use Rattle.zic_pieces.specs.code.Order.{AllBelow, EachHas, AreInOrder}

pub the_stop_is : {X F : Type 0} → (o : ℕ → Result X F → Type 0) (n least : ℕ) (r : PieceStop F) → (least < n) × HaveValues o least × IsReason (o least) r → IsStop o n (the_stop least r)
the_stop_is o n least (Fault f) h = h
the_stop_is o n least Memory h = (h.0, h.1)

module _ {X F : Type 0} (o : ℕ → Result X F → Type 0) (n : ℕ) (es : List Event) (vals : List (ℕ × X)) (least : ℕ) (is_least : IsLeast n es least) (once : (i : ℕ) → i < n → i ≤ least → times i (given n es) ≡ 1) where
  -- each piece below the least reported one has its value kept
  between_below : (halt : Option (ℕ × PieceStop F)) → IsWork o n es vals halt → (i : ℕ) → i < least → (x : X) × HasValueAt vals i x
  between_below halt work i low =
      let le = is_least.2 in
      let one = once i (omega arith) (omega arith) in
      ⊎_elim (λ k. k) (λ r. (let above = is_least.1 i r in absurd (omega arith))) (work.done i (omega arith))

  values_below : (halt : Option (ℕ × PieceStop F)) → IsWork o n es vals halt → HaveValues o least
  values_below halt work i low = let k = between_below halt work i low in (k.0, (work.own i k.0 k.1).0)

  module _ (work : IsWork o n es vals None) where
    none_reported : least ≡ n
    none_reported = ⊎_elim (λ e. e) (λ r. absurd (work.halts least r)) is_least.0

    pub all_below : AllBelow n vals
    all_below i x k = (work.own i x k).1

    pub each_has : EachHas n vals
    each_has i low = let e = none_reported in between_below None work i (omega arith)

    pub are_values : (all : List X) → AreInOrder n vals all → AreValues o n all
    are_values all ordered = (ordered.0, (λ i x e. (work.own i x (ordered.1 i x e)).0))

  module _ (h : ℕ) (r : PieceStop F) (work : IsWork o n es vals (Some (h, r))) where
    the_halt : least ≡ h
    the_halt =
        let low = work.halts.0 in
        let le = is_least.1 h work.halts.1 in
        ⊎_elim (λ e. absurd (omega arith)) (λ m. (let a = work.halts.2 least m in omega arith)) is_least.0

    pub stops : (least < n) × HaveValues o least × IsReason (o least) r
    stops = (subst (λ k. k < n) (sym the_halt) work.halts.0, values_below (Some (h, r)) work, subst (λ k. IsReason (o k) r) (sym the_halt) work.halts.3)

-- in terms of what the answer's callers know: the claims' number of pieces is the task's
pub record Settles {X F : Type 0} (o : ℕ → Result X F → Type 0) (n : ℕ) (es : List Event) (vals : List (ℕ × X)) (halt : Option (ℕ × PieceStop F)) (least : ℕ) : Type 0 where
  pub is_least : IsLeast n es least
  pub once : (i : ℕ) → i < n → i ≤ least → times i (given n es) ≡ 1
  pub work : IsWork o n es vals halt

module _ {X F : Type 0} (o : ℕ → Result X F → Type 0) (n : ℕ) (es : List Event) (vals : List (ℕ × X)) (halt : Option (ℕ × PieceStop F)) (least : ℕ) (s : Settles o n es vals halt least) where
  halted : (h : Option (ℕ × PieceStop F)) → halt ≡ h → IsWork o n es vals h
  halted h is = subst (λ k. IsWork o n es vals k) is s.work

  pub none_below : halt ≡ None → AllBelow n vals
  none_below is = all_below o n es vals least s.is_least s.once (halted None is)

  pub none_each : halt ≡ None → EachHas n vals
  none_each is = each_has o n es vals least s.is_least s.once (halted None is)

  pub none_values : halt ≡ None → (all : List X) → AreInOrder n vals all → AreValues o n all
  none_values is = are_values o n es vals least s.is_least s.once (halted None is)

  pub some_stop : (h : ℕ) (r : PieceStop F) → halt ≡ Some (h, r) → IsStop o n (the_stop least r)
  some_stop h r is = the_stop_is o n least r (stops o n es vals least s.is_least s.once h r (halted (Some (h, r)) is))

pub settled : {X F : Type 0} → (o : ℕ → Result X F → Type 0) (n : ℕ) (claims : Shared) (pass : Held) (vals : List (ℕ × X)) (halt : Option (ℕ × PieceStop F)) (least : ℕ) → IsOf claims pass → claims.pieces ≡ n
    → IsWork o pass.known.pieces pass.known.events vals halt → IsLeast claims.pieces pass.known.events least → ((i : ℕ) → i < claims.pieces → i ≤ least → times i (given claims.pieces pass.known.events) ≡ 1)
    → Settles o n pass.known.events vals halt least
settled o n claims pass vals halt least whose is work is_least once = record {
  is_least = subst (λ k. IsLeast k pass.known.events least) is is_least;
  once = subst (λ k. (i : ℕ) → i < k → i ≤ least → times i (given k pass.known.events) ≡ 1) is once;
  work = subst (λ k. IsWork o k pass.known.events vals halt) (whose.1 ∙ is) work;
}
