-- What the core says of one pass.
use Rattle.std.proofs.Common.{◌≡◌, ◌≢◌, ℕ, zero, suc, ◌+◌, ◌<◌, ◌≤◌, Bool, true, false, List, [], ◌∷◌, length, cond, refl, ap, ◌∙◌, arith, eq-eqb, ne_eqb}
use mathlib.Core.Option.{some}
use mathlib.Core.Logic.{dite}
use native.Mathlib.Decide.{ℕ_discrete, dec_le}
use lib.ListN.{get_elem?}
use Rattle.zic_pieces.specs.declared.pass.Known.{Known}
use Rattle.zic_pieces.specs.Events.{draws, weigh, one_at}
use Rattle.zic_pieces.specs.code.Core.{total, weigh_below, parts_if, IsCore}
use Rattle.zic_pieces.specs.Passes.{IsSound}
use Rattle.zic_pieces.proofs.Totals.{total_at}

one_here : (x : ℕ) → one_at x x ≡ 1
one_here x = ap (λ b. cond b 1 0) (eq-eqb x x refl)

pub one_else : (x y : ℕ) → y ≢ x → one_at x y ≡ 0
one_else x y n = ap (λ b. cond b 1 0) (ne_eqb y x n)

-- x is not among the numbers below n
pub below_none : (x n : ℕ) → n ≤ x → weigh_below (one_at x) n ≡ 0
below_none x zero h = refl
below_none x (suc n) h = let r = below_none x n (omega arith) in let o = one_else x n (λ e. omega arith) in omega arith

-- x is once among them
pub below_once : (x n : ℕ) → x < n → weigh_below (one_at x) n ≡ 1
below_once x zero h = absurd (omega arith)
below_once x (suc n) h = dite (ℕ_discrete n x)
    (λ e. let r = below_none x n (omega arith) in let o : one_at x n ≡ 1 = ap (one_at x) e ∙ one_here x in omega arith)
    (λ e. let r = below_once x n (lesser x n h e) in let o = one_else x n e in omega arith)
  where
    lesser : (x n : ℕ) → x < suc n → n ≢ x → x < n
    lesser x n h e = omega arith

below_most : (x n : ℕ) → weigh_below (one_at x) n ≤ 1
below_most x n = dite (dec_le n x) (λ h. let r = below_none x n h in omega arith) (λ h. let r = below_once x n (omega arith) in omega arith)

below_count : (n : ℕ) → weigh_below (λ y. 1) n ≡ n
below_count zero = refl
below_count (suc n) = let r = below_count n in omega arith

weigh_count : (xs : List ℕ) → weigh (λ y. 1) xs ≡ length xs
weigh_count [] = refl
weigh_count (x ∷ xs) = let r = weigh_count xs in omega arith

total_le : (f g : Known → ℕ) (vs : List Known) → ((v : Known) → f v ≤ g v) → total f vs ≤ total g vs
total_le f g [] le = omega arith
total_le f g (v ∷ vs) le = let r = total_le f g vs le in let s = le v in omega arith

part_le : (b : Bool) (p : ℕ) → parts_if b p ≤ p
part_le true p = omega arith
part_le false p = omega arith

-- no more than 1,024 numbers past the last piece are drawn
pub next_bounded : (n next fault : ℕ) (vs : List Known) → IsCore n next fault vs → next ≤ n + 1024
next_bounded n next fault vs core =
    let a = core.parts in let e = core.ended in
    let l = total_le (λ v. parts_if v.ended v.parts) (λ v. v.parts) vs (λ v. part_le v.ended v.parts) in omega arith

pub sound : (n next fault : ℕ) (vs : List Known) (id : ℕ) (v : Known) → IsCore n next fault vs → get_elem? vs id ≡ some v → 0 < v.parts → IsSound v
sound n next fault vs id v core at busy =
    let mine = core.located id v at in
    let bound = next_bounded n next fault vs core in
    let same = mine.pieces busy in
    record {
      once = λ x. (let t = total_at (λ u. weigh (one_at x) (draws u.events)) vs id v at in let d = core.drawn (one_at x) in let m = below_most x next in omega arith);
      heard = λ i s g b d h. core.heard i s g b (id, v, at, d) (id, v, at, h);
      within = (let w = mine.within busy in omega arith);
      notified = mine.notified;
      found = mine.found;
      bounded = (let p = mine.drawn in omega arith);
      few = (let t = total_at (λ u. weigh (λ y. 1) (draws u.events)) vs id v at in let d = core.drawn (λ y. 1) in let c = below_count next in let w = weigh_count (draws v.events) in omega arith);
      parts = (let t = total_at (λ u. u.parts) vs id v at in let p = core.parts in omega arith);
    }
