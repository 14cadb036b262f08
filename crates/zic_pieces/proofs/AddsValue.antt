-- Each event keeps what holds of the core, and so do splitting and joining passes.
use Rattle.std.proofs.Common.{◌≡◌, ◌≢◌, ℕ, zero, suc, ◌+◌, ◌-◌, ◌<◌, ◌≤◌, Bool, true, false, nat_le, ◌||◌, min, List, [], ◌∷◌, ◌++◌, set, refl, sym, ap, ◌∙◌, subst, inl, inr, ⊎_elim, arith}
use Rattle.std.proofs.lemmas.Bool.{leb-true}
use Rattle.std.proofs.lemmas.Bool.Decides.{nat_tests}
use mathlib.Core.Option.{some, some-injective, some-ne-none}
use mathlib.Core.Logic.{dite}
use native.Mathlib.Decide.{ℕ_discrete, dec_le}
use lib.ListN.{get_elem?}
use Rattle.atomic_table.proofs.Lists.{at_set, at_snoc, set_else, set_here}
use Rattle.zic_pieces.specs.declared.pass.Event.{Event}
use Rattle.zic_pieces.specs.declared.pass.Event.TheVariants.{Drew, Reported, Glanced}
use Rattle.zic_pieces.specs.declared.pass.Known.{Known}
use Rattle.zic_pieces.specs.Events.{Has, draws, past, weigh}
use Rattle.zic_pieces.specs.Core.{first, drew, reported, glanced, left, right, both, spent}
use Rattle.zic_pieces.specs.code.Core.{total, parts_if, SomeHas, IsPassOf, IsCore}
use Rattle.zic_pieces.proofs.Totals.{total_set, total_snoc, weigh_draws, past_append}
use Rattle.zic_pieces.proofs.Members.{there as there_is, has_one, has_either, has_none, has_front, has_back, after_set, still_set, after_gain, still_gain, new_gain, after_snoc, still_snoc}

-- each pass stands after one was changed
stands_set : (n next fault next' fault' : ℕ) (vs : List Known) (id : ℕ) (w : Known)
    → ((j : ℕ) (u : Known) → get_elem? vs j ≡ some u → IsPassOf n next fault u)
    → next ≤ next' → fault' ≤ fault → IsPassOf n next' fault' w
    → (j : ℕ) (u : Known) → get_elem? (set vs id w) j ≡ some u → IsPassOf n next' fault' u
stands_set n next fault next' fault' vs id w old more less new j u e = ⊎_elim
    (λ (x : (j ≡ id) × (w ≡ u)). subst (λ (t : Known). IsPassOf n next' fault' t) x.1 new)
    (λ (x : (j ≢ id) × (get_elem? vs j ≡ some u)). let o = old j u x.1 in record { idle = o.idle; pieces = o.pieces; seen = λ h. (let a = o.seen h in omega arith); within = o.within; notified = o.notified; found = o.found; drawn = (let a = o.drawn in omega arith); over = λ h. (let a = o.over h in omega arith) })
    (at_set vs id j w u e)

-- more draws are past n by at most what the pass stands for
ends : (n next pieces parts before after : ℕ) (b : Bool) → nat_le pieces next ≡ b → pieces ≡ n → 0 < parts → next ≤ n + before → after + 0 ≡ before + parts_if b parts → suc next ≤ n + after
ends n next pieces parts before after true is p busy most sum = omega arith
ends n next pieces parts before after false is p busy most sum = let low : next < pieces = grind (arith, nat_tests) in omega arith

module _ (n next fault : ℕ) (vs : List Known) (id : ℕ) (v : Known) (core : IsCore n next fault vs) (at : get_elem? vs id ≡ some v) where
  pub draw_keeps : 0 < v.parts → v.ended ≡ false → IsCore n (suc next) fault (set vs id (drew next v))
  draw_keeps busy goes =
      let w : Known = drew next v in
      let x : Event = Drew next v.seen in
      let mine = core.located id v at in
      let seen = mine.seen busy in
      let low = mine.drawn in
      let idle_not : v.parts ≡ 0 → ⊥ = λ z. omega arith in
      record {
        parts = (let t = total_set (λ u. u.parts) vs id v w at in let a = core.parts in omega arith);
        drawn = λ h. (let t = total_set (λ u. weigh h (draws u.events)) vs id v w at in let a = core.drawn h in omega (arith, weigh_draws h v.events (x ∷ [])));
        ended = (let t = total_set (λ u. parts_if u.ended u.parts) vs id v w at in let none : parts_if v.ended v.parts ≡ 0 = ap (λ b. parts_if b v.parts) goes in
            ends n next v.pieces v.parts (total (λ u. parts_if u.ended u.parts) vs) (total (λ u. parts_if u.ended u.parts) (set vs id w)) (nat_le v.pieces next) refl (mine.pieces busy) busy core.ended (omega arith));
        least = ⊎_elim inl (λ h. inr (still_gain vs id v w x (Reported fault) at refl h)) core.least;
        within = core.within;
        located = stands_set n next fault (suc next) fault vs id w core.located (omega arith) (omega arith)
            record { idle = λ z. absurd (idle_not z); pieces = mine.pieces; seen = mine.seen; within = mine.within; notified = λ k h. ⊎_elim (mine.notified k) (λ o. (let e : x ≡ Reported k = has_one x (Reported k) o in absurd (cc))) (has_either v.events (x ∷ []) (Reported k) h); found = λ g b h. ⊎_elim (mine.found g b) (λ o. (let e : x ≡ Glanced g b = has_one x (Glanced g b) o in absurd (cc))) (has_either v.events (x ∷ []) (Glanced g b) h); drawn = (let p = past_append v.events (x ∷ []) in omega arith); over = λ h. (let q = leb-true v.pieces next h in let r = mine.pieces busy in omega arith) };
        least_seen = λ i s h. ⊎_elim (core.least_seen i s) (λ (e : x ≡ Drew i s). (let is : v.seen ≡ s = cc in omega arith)) (after_gain vs id v w x (Drew i s) at refl h);
        notified = λ i h. ⊎_elim (core.notified i) (λ (e : x ≡ Reported i). absurd (cc)) (after_gain vs id v w x (Reported i) at refl h);
        glances = λ g b h. ⊎_elim
            (λ o. (let a = core.glances g b o in ((let r = a.0 in omega arith), a.1, ⊎_elim inl (λ r. inr (still_gain vs id v w x (Reported g) at refl r)) a.2)))
            (λ (e : x ≡ Glanced g b). absurd (cc))
            (after_gain vs id v w x (Glanced g b) at refl h);
        heard = λ i s g b d h less. ⊎_elim
            (λ o. ⊎_elim
            (λ q. core.heard i s g b q o less)
            (λ (e : x ≡ Drew i s). (let is : next ≡ i = cc in let r = (core.glances g b o).0 in absurd (omega arith)))
            (after_gain vs id v w x (Drew i s) at refl d))
            (λ (e : x ≡ Glanced g b). absurd (cc))
            (after_gain vs id v w x (Glanced g b) at refl h);
      }

  pub report_keeps : (i : ℕ) → 0 < v.parts → i < n → IsCore n next (min fault i) (set vs id (reported i v))
  report_keeps i busy low =
      let w : Known = reported i v in
      let x : Event = Reported i in
      let mine = core.located id v at in
      let seen = mine.seen busy in
      let drawn = mine.drawn in
      let idle_not : v.parts ≡ 0 → ⊥ = λ z. omega arith in
      let still = λ (e : Event) (h : SomeHas vs e). still_gain vs id v w x e at refl h in
      record {
        parts = (let t = total_set (λ u. u.parts) vs id v w at in let a = core.parts in omega arith);
        drawn = λ h. (let t = total_set (λ u. weigh h (draws u.events)) vs id v w at in let a = core.drawn h in omega (arith, weigh_draws h v.events (x ∷ [])));
        ended = (let t = total_set (λ u. parts_if u.ended u.parts) vs id v w at in let a = core.ended in omega arith);
        least = dite (dec_le fault i)
            (λ le. let is : min fault i ≡ fault = omega arith in ⊎_elim (λ e. inl (is ∙ e)) (λ h. inr (subst (λ k. SomeHas (set vs id w) (Reported k)) (sym is) (still (Reported fault) h))) core.least)
            (λ gt. let is : min fault i ≡ i = omega arith in inr (subst (λ k. SomeHas (set vs id w) (Reported k)) (sym is) (new_gain vs id v w x at refl)));
        within = (let a = core.within in omega arith);
        located = stands_set n next fault next (min fault i) vs id w core.located (omega arith) (omega arith)
            record { idle = λ z. absurd (idle_not z); pieces = mine.pieces; seen = λ h. omega arith; within = λ h. (let a = mine.within h in omega arith); notified = λ k h. ⊎_elim (λ o. (let a = mine.notified k o in omega arith)) (λ o. (let e : x ≡ Reported k = has_one x (Reported k) o in let is : i ≡ k = cc in omega arith)) (has_either v.events (x ∷ []) (Reported k) h); found = λ g b h. ⊎_elim (λ o. (let a = mine.found g b o in omega arith)) (λ o. (let e : x ≡ Glanced g b = has_one x (Glanced g b) o in absurd (cc))) (has_either v.events (x ∷ []) (Glanced g b) h); drawn = (let p = past_append v.events (x ∷ []) in omega arith); over = mine.over };
        least_seen = λ k s h. ⊎_elim (λ o. (let a = core.least_seen k s o in omega arith)) (λ (e : x ≡ Drew k s). absurd (cc)) (after_gain vs id v w x (Drew k s) at refl h);
        notified = λ k h. ⊎_elim (λ o. (let a = core.notified k o in ((let b = a.0 in omega arith), a.1))) (λ (e : x ≡ Reported k). (let is : i ≡ k = cc in (omega arith, omega arith))) (after_gain vs id v w x (Reported k) at refl h);
        glances = λ g b h. ⊎_elim
            (λ o. (let a = core.glances g b o in (a.0, (let r = a.1 in omega arith), ⊎_elim inl (λ r. inr (still (Reported g) r)) a.2)))
            (λ (e : x ≡ Glanced g b). absurd (cc))
            (after_gain vs id v w x (Glanced g b) at refl h);
        heard = λ k s g b d h less. ⊎_elim
            (λ o. ⊎_elim
            (λ q. core.heard k s g b q o less)
            (λ (e : x ≡ Drew k s). absurd (cc))
            (after_gain vs id v w x (Drew k s) at refl d))
            (λ (e : x ≡ Glanced g b). absurd (cc))
            (after_gain vs id v w x (Glanced g b) at refl h);
      }

  pub glance_keeps : 0 < v.parts → IsCore n next fault (set vs id (glanced fault v))
  glance_keeps busy =
      let w : Known = glanced fault v in
      let x : Event = Glanced fault (past v.events) in
      let mine = core.located id v at in
      let seen = mine.seen busy in
      let drawn = mine.drawn in
      let idle_not : v.parts ≡ 0 → ⊥ = λ z. omega arith in
      let still = λ (e : Event) (h : SomeHas vs e). still_gain vs id v w x e at refl h in
      record {
        parts = (let t = total_set (λ u. u.parts) vs id v w at in let a = core.parts in omega arith);
        drawn = λ h. (let t = total_set (λ u. weigh h (draws u.events)) vs id v w at in let a = core.drawn h in omega (arith, weigh_draws h v.events (x ∷ [])));
        ended = (let t = total_set (λ u. parts_if u.ended u.parts) vs id v w at in let a = core.ended in omega arith);
        least = ⊎_elim inl (λ h. inr (still (Reported fault) h)) core.least;
        within = core.within;
        located = stands_set n next fault next fault vs id w core.located (omega arith) (omega arith)
            record { idle = λ z. absurd (idle_not z); pieces = mine.pieces; seen = λ h. omega arith; within = λ h. (let a = mine.within h in omega arith); notified = λ k h. ⊎_elim (λ o. (let a = mine.notified k o in omega arith)) (λ o. (let e : x ≡ Reported k = has_one x (Reported k) o in absurd (cc))) (has_either v.events (x ∷ []) (Reported k) h); found = λ g b h. ⊎_elim (λ o. (let a = mine.found g b o in omega arith)) (λ o. (let e : x ≡ Glanced g b = has_one x (Glanced g b) o in let is : fault ≡ g = cc in omega arith)) (has_either v.events (x ∷ []) (Glanced g b) h); drawn = (let p = past_append v.events (x ∷ []) in omega arith); over = mine.over };
        least_seen = λ k s h. ⊎_elim (core.least_seen k s) (λ (e : x ≡ Drew k s). absurd (cc)) (after_gain vs id v w x (Drew k s) at refl h);
        notified = λ k h. ⊎_elim (core.notified k) (λ (e : x ≡ Reported k). absurd (cc)) (after_gain vs id v w x (Reported k) at refl h);
        glances = λ g b h. ⊎_elim
            (λ o. (let a = core.glances g b o in (a.0, a.1, ⊎_elim inl (λ r. inr (still (Reported g) r)) a.2)))
            (λ (e : x ≡ Glanced g b). (let found : fault ≡ g = cc in let bound : past v.events ≡ b = cc in
            (omega arith, omega arith, ⊎_elim (λ none. inl (sym found ∙ none)) (λ h. inr (subst (λ k. SomeHas (set vs id w) (Reported k)) found (still (Reported fault) h))) core.least)))
            (after_gain vs id v w x (Glanced g b) at refl h);
        heard = λ k s g b d h less. ⊎_elim
            (λ q. ⊎_elim
            (λ o. core.heard k s g b q o less)
            (λ (e : x ≡ Glanced g b). (let found : fault ≡ g = cc in let a = core.least_seen k s q in omega arith))
            (after_gain vs id v w x (Glanced g b) at refl h))
            (λ (e : x ≡ Drew k s). absurd (cc))
            (after_gain vs id v w x (Drew k s) at refl d);
      }

-- where no event is gained or lost and the sums are kept, what holds of the core is kept
rearranged : (n next fault : ℕ) (vs ws : List Known) → IsCore n next fault vs
    → ((e : Event) → SomeHas vs e → SomeHas ws e) → ((e : Event) → SomeHas ws e → SomeHas vs e)
    → total (λ v. v.parts) ws ≡ total (λ v. v.parts) vs
    → ((h : ℕ → ℕ) → total (λ v. weigh h (draws v.events)) ws ≡ total (λ v. weigh h (draws v.events)) vs)
    → total (λ v. parts_if v.ended v.parts) vs ≤ total (λ v. parts_if v.ended v.parts) ws
    → ((id : ℕ) (v : Known) → get_elem? ws id ≡ some v → IsPassOf n next fault v)
    → IsCore n next fault ws
rearranged n next fault vs ws core to from parts drawn ended located = record {
  parts = parts ∙ core.parts;
  drawn = λ h. drawn h ∙ core.drawn h;
  ended = (let a = core.ended in omega arith);
  least = ⊎_elim inl (λ h. inr (to (Reported fault) h)) core.least;
  within = core.within;
  located = located;
  least_seen = λ i s h. core.least_seen i s (from (Drew i s) h);
  notified = λ i h. core.notified i (from (Reported i) h);
  glances = λ g b h. (let a = core.glances g b (from (Glanced g b) h) in (a.0, a.1, ⊎_elim inl (λ r. inr (to (Reported g) r)) a.2));
  heard = λ i s g b d h less. core.heard i s g b (from (Drew i s) d) (from (Glanced g b) h) less;
}

-- what a part of an ended pass stands for
parts_split : (b : Bool) (p : ℕ) → 0 < p → parts_if b (p - 1) + parts_if b 1 ≡ parts_if b p
parts_split true p busy = omega arith
parts_split false p busy = refl

parts_join : (a b : Bool) (p q : ℕ) → parts_if a p + parts_if b q ≤ parts_if (a || b) (p + q)
parts_join true true p q = omega arith
parts_join true false p q = omega arith
parts_join false true p q = omega arith
parts_join false false p q = omega arith

either_over : (a b : Bool) (n next : ℕ) → (a ≡ true → n ≤ next) → (b ≡ true → n ≤ next) → a || b ≡ true → n ≤ next
either_over true b n next p q h = p refl
either_over false b n next p q h = q h

pub split_keeps : (n next fault : ℕ) (vs : List Known) (id : ℕ) (v : Known) → IsCore n next fault vs → get_elem? vs id ≡ some v → 1 < v.parts → IsCore n next fault (set vs id (left v) ++ right v ∷ [])
split_keeps n next fault vs id v core at more =
    let mine = core.located id v at in
    let low = mine.drawn in
    let ls : List Known = set vs id (left v) in
    let idle_left : v.parts - 1 ≡ 0 → ⊥ = λ z. omega arith in
    let stands_left : IsPassOf n next fault (left v) = record { idle = λ z. absurd (idle_left z); pieces = λ h. mine.pieces (omega arith); seen = λ h. mine.seen (omega arith); within = λ h. mine.within (omega arith); notified = mine.notified; found = mine.found; drawn = mine.drawn; over = mine.over } in
    let stands_right : IsPassOf n next fault (right v) = record { idle = λ z. refl; pieces = λ h. mine.pieces (omega arith); seen = λ h. mine.seen (omega arith); within = λ h. mine.within (omega arith); notified = λ k h. absurd (has_none (Reported k) h); found = λ g b h. absurd (has_none (Glanced g b) h); drawn = omega arith; over = mine.over } in
    let old = stands_set n next fault next fault vs id (left v) core.located (omega arith) (omega arith) stands_left in
    rearranged n next fault vs (ls ++ right v ∷ []) core
    (λ e h. still_snoc ls (right v) e (still_set vs id v (left v) e at (λ m. m) h))
    (λ e h. ⊎_elim (λ o. o) (λ m. (id, v, at, m)) (after_set vs id (left v) e (after_snoc ls (right v) e refl h)))
    (let t = total_set (λ u. u.parts) vs id v (left v) at in let s = total_snoc (λ u. u.parts) ls (right v) in omega arith)
    (λ h. (let t = total_set (λ u. weigh h (draws u.events)) vs id v (left v) at in let s = total_snoc (λ u. weigh h (draws u.events)) ls (right v) in omega arith))
    (let t = total_set (λ u. parts_if u.ended u.parts) vs id v (left v) at in let s = total_snoc (λ u. parts_if u.ended u.parts) ls (right v) in let p = parts_split v.ended v.parts (omega arith) in omega arith)
    (λ j u e. ⊎_elim (old j u) (λ (is : right v ≡ u). subst (λ (t : Known). IsPassOf n next fault t) is stands_right) (at_snoc ls (right v) u j e))

pub join_keeps : (n next fault : ℕ) (vs : List Known) (id : ℕ) (v : Known) (other : ℕ) (w : Known) → IsCore n next fault vs → get_elem? vs id ≡ some v
    → ¬ (other ≡ id) → get_elem? (set vs id (both v w)) other ≡ some w → 0 < v.parts → 0 < w.parts → v.pieces ≡ w.pieces
    → IsCore n next fault (set (set vs id (both v w)) other spent)
join_keeps n next fault vs id v other w core at differ there some_v some_w same =
    let b : Known = both v w in
    let bs : List Known = set vs id b in
    let at_w : get_elem? vs other ≡ some w = sym (set_else vs id other b differ) ∙ there in
    let mine = core.located id v at in
    let theirs = core.located other w at_w in
    let seen_v = mine.seen some_v in
    let seen_w = theirs.seen some_w in
    let low_v = mine.drawn in
    let low_w = theirs.drawn in
    let idle_both : v.parts + w.parts ≡ 0 → ⊥ = λ z. omega arith in
    let stands_both : IsPassOf n next fault b = record { idle = λ z. absurd (idle_both z); pieces = λ h. mine.pieces some_v; seen = λ h. omega arith; within = λ h. (let a = mine.within some_v in omega arith); notified = λ k h. ⊎_elim (λ o. (let a = mine.notified k o in omega arith)) (λ o. (let a = theirs.notified k o in omega arith)) (has_either v.events (w.events) (Reported k) h); found = λ g b h. ⊎_elim (λ o. (let a = mine.found g b o in omega arith)) (λ o. (let a = theirs.found g b o in omega arith)) (has_either v.events (w.events) (Glanced g b) h); drawn = (let p = past_append v.events w.events in omega arith); over = either_over v.ended w.ended n next mine.over theirs.over } in
    let stands_spent : IsPassOf n next fault spent = record { idle = λ z. refl; pieces = λ h. absurd (omega arith); seen = λ h. absurd (omega arith); within = λ h. absurd (omega arith); notified = λ k h. absurd (has_none (Reported k) h); found = λ g b h. absurd (has_none (Glanced g b) h); drawn = omega arith; over = λ h. absurd (cc) } in
    let old = stands_set n next fault next fault vs id b core.located (omega arith) (omega arith) stands_both in
    rearranged n next fault vs (set bs other spent) core
    (λ e h. joined_to e h)
    (λ e h. ⊎_elim
    (λ o. ⊎_elim (λ q. q) (λ m. ⊎_elim (λ p. (id, v, at, p)) (λ p. (other, w, at_w, p)) (has_either v.events w.events e m)) (after_set vs id b e o))
    (λ m. absurd (has_none e m))
    (after_set bs other spent e h))
    (let t = total_set (λ u. u.parts) vs id v b at in let s = total_set (λ u. u.parts) bs other w spent there in omega arith)
    (λ h. (let t = total_set (λ u. weigh h (draws u.events)) vs id v b at in let s = total_set (λ u. weigh h (draws u.events)) bs other w spent there in let a = weigh_draws h v.events w.events in omega arith))
    (let t = total_set (λ u. parts_if u.ended u.parts) vs id v b at in let s = total_set (λ u. parts_if u.ended u.parts) bs other w spent there in let p = parts_join v.ended w.ended v.parts w.parts in omega arith)
    (stands_set n next fault next fault bs other spent old (omega arith) (omega arith) stands_spent)
  where
    joined_to : (e : Event) → SomeHas vs e → SomeHas (set (set vs id (both v w)) other spent) e
    joined_to e h =
        let bs : List Known = set vs id (both v w) in
        let here : get_elem? (set bs other spent) id ≡ some (both v w) = set_else bs other id spent (λ s. differ (sym s)) ∙ set_here vs id (both v w) (there_is vs id v at) in
        dite (ℕ_discrete h.0 id)
        (λ is. (id, both v w, here, has_front v.events w.events e (subst (λ (u : Known). Has u.events e) (some-injective h.1 v (sym h.2 ∙ ap (λ j. get_elem? vs j) is ∙ at)) h.3)))
        (λ not_v. dite (ℕ_discrete h.0 other)
        (λ is. (id, both v w, here, has_back v.events w.events e (subst (λ (u : Known). Has u.events e) (some-injective h.1 w (sym h.2 ∙ ap (λ j. get_elem? vs j) is ∙ (sym (set_else vs id other (both v w) differ) ∙ there))) h.3)))
        (λ not_w. (h.0, h.1, set_else bs other h.0 spent not_w ∙ (set_else vs id h.0 (both v w) not_v ∙ h.2), h.3)))

pub begins : (n : ℕ) → IsCore n 0 n (first n ∷ [])
begins n =
    let nothing : (e : Event) → SomeHas (first n ∷ []) e → ⊥ = λ e h. none_yet e h.0 h.1 h.2 h.3 in
    record {
      parts = refl;
      drawn = λ h. refl;
      ended = omega arith;
      least = inl refl;
      within = omega arith;
      located = alone;
      least_seen = λ i s h. absurd (nothing (Drew i s) h);
      notified = λ i h. absurd (nothing (Reported i) h);
      glances = λ g b h. absurd (nothing (Glanced g b) h);
      heard = λ i s g b d h less. absurd (nothing (Drew i s) d);
    }
  where
    none_yet : (e : Event) (id : ℕ) (v : Known) → get_elem? (first n ∷ []) id ≡ some v → Has v.events e → ⊥
    none_yet e zero v is h = has_none e (subst (λ (l : List Event). Has l e) (ap (λ (u : Known). u.events) (sym (some-injective (first n) v is))) h)
    none_yet e (suc id) v is h = some-ne-none v (sym is)

    alone : (id : ℕ) (v : Known) → get_elem? (first n ∷ []) id ≡ some v → IsPassOf n 0 n v
    alone zero v is = let one : IsPassOf n 0 n (first n) = record { idle = λ z. refl; pieces = λ h. refl; seen = λ h. omega arith; within = λ h. omega arith; notified = λ k h. absurd (has_none (Reported k) h); found = λ g b h. absurd (has_none (Glanced g b) h); drawn = omega arith; over = λ h. absurd (cc) } in subst (λ (u : Known). IsPassOf n 0 n u) (some-injective (first n) v is) one
    alone (suc id) v is = absurd (some-ne-none v (sym is))
