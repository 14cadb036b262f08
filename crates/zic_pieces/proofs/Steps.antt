-- Each atomic step keeps the rule, and tells what it should.
use Rattle.std.proofs.Common.{◌≡◌, ℕ, suc, ◌+◌, ◌%◌, ◌^◌, ◌<◌, ◌≤◌, false, min, List, [], ◌∷◌, get_or, set, refl, sym, ap, ◌∙◌, subst, arith}
use Rattle.std.proofs.Math.Nat.{mod-eq_of_lt}
use mathlib.Core.Option.{none, some}
use lib.ListN.{get_elem?}
use Rattle.atomic_table.specs.Table.{State, step, keeps, Allows, Splits, Joins}
use Rattle.atomic_table.proofs.Lists.{set_here, set_again}
use Rattle.zic_pieces.specs.declared.pass.Known.{Known}
use Rattle.zic_pieces.specs.Events.{past}
use Rattle.zic_pieces.specs.Core.{drew, reported, glanced, left, right, both, spent}
use Rattle.zic_pieces.specs.code.Core.{IsCore}
use Rattle.zic_pieces.specs.Passes.{IsSound}
use Rattle.zic_pieces.specs.code.Rule.{Shows, Sat, Drawn, Notified, Looked, Learned}
use Rattle.zic_pieces.proofs.AddsValue.{draw_keeps, report_keeps, glance_keeps, split_keeps, join_keeps}
use Rattle.zic_pieces.proofs.Members.{there}
use Rattle.zic_pieces.proofs.Sounds.{sound, next_bounded}

abbrev St : Type 0
St = State (Unit {0}) Known

-- after a step in which the seat id takes the view w
here_sound : (n next fault : ℕ) (vs : List Known) (id : ℕ) (v w : Known) → get_elem? vs id ≡ some v → 0 < w.parts → IsCore n next fault (set vs id w) → IsSound w
here_sound n next fault vs id v w at busy core = sound n next fault (set vs id w) id w core (set_here vs id w (there vs id v at)) busy

pub draws_allowed : (n slots id : ℕ) (me : Sat) → n ≤ 4294967296 → 0 < me.0.parts → me.0.ended ≡ false
    → Allows (Shows n) slots id me 0 (λ x. (x + 1) % 2 ^ 64) (Drawn (step slots 0 1 0 none) me)
draws_allowed n slots id me most busy goes s (next, fault, words, core) _ at _ =
    let v : Known = me.0 in
    let w : Known = drew next v in
    let found : get_or s.words 0 0 ≡ next = ap (λ l. get_or l 0 0) words in
    let core' = draw_keeps n next fault s.views id v core at busy goes in
    let bound = next_bounded n next fault s.views core in
    let wrap : (next + 1) % 18446744073709551616 ≡ suc next = mod-eq_of_lt (omega arith) ∙ (omega arith) in
    let value : (get_or s.words 0 0 + 1) % 18446744073709551616 ≡ suc next = ap (λ x. (x + 1) % 18446744073709551616) found ∙ wrap in
    let after : set s.words 0 ((get_or s.words 0 0 + 1) % 18446744073709551616) ≡ suc next ∷ fault ∷ [] = ap (λ x. set s.words 0 x) value ∙ ap (λ l. set l 0 (suc next)) words in (
      w,
      keeps,
      tt,
      (suc next, fault, after, core'),
      ((ap (λ x. drew x v) (sym found)), (let l = (core.located id v at).drawn in subst (λ x. past v.events ≤ x) (sym found) l), here_sound n (suc next) fault s.views id v w at busy core', refl),
    )

pub report_allowed : (n slots id : ℕ) (me : Sat) (i : ℕ) → 0 < me.0.parts → i < n
    → Allows (Shows n) slots id me 1 (λ x. min x i) (Notified (step slots 1 i 0 none) me)
report_allowed n slots id me i busy low s (next, fault, words, core) _ at _ =
    let v : Known = me.0 in
    let w : Known = reported i v in
    let found : get_or s.words 1 0 ≡ fault = ap (λ l. get_or l 1 0) words in
    let core' = report_keeps n next fault s.views id v core at i busy low in
    let after : set s.words 1 (min (get_or s.words 1 0) i) ≡ next ∷ min fault i ∷ [] = ap (λ x. set s.words 1 (min x i)) found ∙ ap (λ l. set l 1 (min fault i)) words in
    (w, keeps, tt, (next, min fault i, after, core'), (refl, here_sound n next (min fault i) s.views id v w at busy core', refl))

pub glance_allowed : (n slots id : ℕ) (me : Sat) → 0 < me.0.parts
    → Allows (Shows n) slots id me 1 (λ x. x) (Looked (step slots 1 0 0 none) me)
glance_allowed n slots id me busy s (next, fault, words, core) _ at _ =
    let v : Known = me.0 in
    let w : Known = glanced fault v in
    let found : get_or s.words 1 0 ≡ fault = ap (λ l. get_or l 1 0) words in
    let core' = glance_keeps n next fault s.views id v core at busy in
    let after : set s.words 1 (get_or s.words 1 0) ≡ next ∷ fault ∷ [] = ap (λ x. set s.words 1 x) found ∙ ap (λ l. set l 1 fault) words in (
      w,
      keeps,
      tt,
      (next, fault, after, core'),
      (ap (λ x. glanced x v) (sym found), (let l = (core.located id v at).seen busy in subst (λ x. x ≤ v.seen) (sym found) l), here_sound n next fault s.views id v w at busy core', refl),
    )

pub learn_allowed : (n slots id : ℕ) (me : Sat) → 0 < me.0.parts
    → Allows (Shows n) slots id me 0 (λ x. x) (Learned (step slots 0 0 0 none) me)
learn_allowed n slots id me busy s (next, fault, words, core) _ at _ =
    let v : Known = me.0 in
    let found : get_or s.words 0 0 ≡ next = ap (λ l. get_or l 0 0) words in
    let after : set s.words 0 (get_or s.words 0 0) ≡ next ∷ fault ∷ [] = ap (λ x. set s.words 0 x) found ∙ ap (λ l. set l 0 next) words in
    (v, keeps, tt, (next, fault, after, subst (λ l. IsCore n next fault l) (sym (set_again s.views id v at)) core), (refl, sound n next fault s.views id v core at busy))

pub split_allowed : (n id : ℕ) (v : Known) → 1 < v.parts → Splits (Shows n) id v (left v) (right v)
split_allowed n id v more s (next, fault, words, core) at = (next, fault, words, split_keeps n next fault s.views id v core at more)

pub join_allowed : (n id : ℕ) (v : Known) (other : ℕ) (w : Known) → 0 < v.parts → 0 < w.parts → v.pieces ≡ w.pieces → Joins (Shows n) id v other w (both v w) spent
join_allowed n id v other w busy_v busy_w same s (next, fault, words, core) at differ is = (next, fault, words, join_keeps n next fault s.views id v other w core at differ is busy_v busy_w same)
