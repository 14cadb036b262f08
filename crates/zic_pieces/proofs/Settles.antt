-- What the core says of one pass to which all others were joined.
use Rattle.std.proofs.Common.{◌≡◌, ◌≢◌, ℕ, suc, ◌+◌, ◌<◌, ◌≤◌, Bool, true, false, not, ◌&&◌, ◌||◌, nat_lt, nat_le, List, [], ◌∷◌, cond, refl, sym, ap, ◌∙◌, subst, inl, inr, ⊎_elim, arith}
use Rattle.std.proofs.lemmas.Bool.Decides.{nat_tests}
use mathlib.Core.Option.{some, some-injective}
use mathlib.Core.Logic.{dite}
use native.Mathlib.Decide.{ℕ_discrete}
use lib.ListN.{get_elem?}
use Rattle.zic_pieces.specs.declared.pass.Event.{Event}
use Rattle.zic_pieces.specs.declared.pass.Event.TheVariants.{Drew, Reported, Glanced}
use Rattle.zic_pieces.specs.declared.pass.Known.{Known}
use Rattle.zic_pieces.specs.Events.{Has, draws, drawn_by, weigh, times, one_at}
use Rattle.zic_pieces.specs.Given.{given, given_by, given_from, skipped, skipped_by, skipped_from}
use Rattle.zic_pieces.specs.code.Whole.{is_whole, is_whole_from, asks, answers}
use Rattle.zic_pieces.specs.code.Core.{total, SomeHas, IsCore}
use Rattle.atomic_table.specs.Table.{Final, Seen}
use Rattle.zic_pieces.specs.code.Rule.{Shows}
use Rattle.zic_pieces.specs.Settlement.{IsEachBelow, IsLeast, FindReports}
use Rattle.zic_pieces.proofs.Totals.{total_two, total_alone, weigh_append}
use Rattle.zic_pieces.proofs.Members.{has_none}
use Rattle.zic_pieces.proofs.Givens.{and_left, and_right}
use Rattle.zic_pieces.proofs.Sounds.{below_none, below_once, one_else, next_bounded}

module _ (n next fault : ℕ) (vs : List Known) (id : ℕ) (v : Known) (core : IsCore n next fault vs) (at : get_elem? vs id ≡ some v) (all : v.parts ≡ 1024) where
  no_events : (j : ℕ) (u : Known) → j ≢ id → get_elem? vs j ≡ some u → u.events ≡ []
  no_events j u other is =
      let two = total_two (λ (w : Known). w.parts) vs id j v u other at is in
      let sum = core.parts in
      (core.located j u is).idle (omega arith)

  -- an event that stands in some pass stands in this one
  pub here : (e : Event) → SomeHas vs e → Has v.events e
  here e h = dite (ℕ_discrete h.0 id)
      (λ same. subst (λ (u : Known). Has u.events e) (some-injective h.1 v (sym h.2 ∙ ap (λ j. get_elem? vs j) same ∙ at)) h.3)
      (λ other. absurd (has_none e (subst (λ (l : List Event). Has l e) (no_events h.0 h.1 other h.2) h.3)))

  all_draws : (h : ℕ → ℕ) → total (λ u. weigh h (draws u.events)) vs ≡ weigh h (draws v.events)
  all_draws h = total_alone (λ u. weigh h (draws u.events)) vs id v at (λ j u other is. ap (λ l. weigh h (draws l)) (no_events j u other is))

  pub each_below : IsEachBelow next (draws v.events)
  each_below x = let a = all_draws (one_at x) in let d = core.drawn (one_at x) in (
    (λ h. let b = below_once x next h in omega arith),
    (λ h. let b = below_none x next h in omega arith),
  )

  pub find_reports : FindReports n v.events
  find_reports g b h = ⊎_elim inl (λ r. inr (here (Reported g) r)) (core.glances g b (id, v, at, h)).2

  pub is_least : IsLeast n v.events fault
  is_least = (⊎_elim inl (λ r. inr (here (Reported fault) r)) core.least, (λ i h. (core.notified i (id, v, at, h)).0), core.within)

  pub all_drawn : v.ended ≡ true → (i : ℕ) → i < n → times i (draws v.events) ≡ 1
  all_drawn over i low = let le = (core.located id v at).over over in (each_below i).0 (omega arith)

  pub found : (g b : ℕ) → Has v.events (Glanced g b) → fault ≤ g
  found g b h = (core.glances g b (id, v, at, h)).1

no_weight : (i j : ℕ) (b : Bool) → one_at i j ≡ 0 → weigh (one_at i) (cond b (j ∷ []) []) ≡ 0
no_weight i j true z = omega arith
no_weight i j false z = refl

yes_cond : (j : ℕ) (a b : Bool) → a ≡ true → b ≡ true → cond (a && b) (j ∷ []) [] ≡ j ∷ []
yes_cond j true true p q = refl
yes_cond j true false p q = absurd (cc)
yes_cond j false b p q = absurd (cc)

no_cond : (j : ℕ) (a b : Bool) → b ≡ false → cond (a && b) (j ∷ []) [] ≡ []
no_cond j true true q = absurd (cc)
no_cond j true false q = refl
no_cond j false b q = refl

not_requested : (j n : ℕ) → not (nat_lt j n) || false ≡ true → n ≤ j
not_requested j n p = grind (arith, nat_tests)

not_requested_last : (j n : ℕ) → not (nat_lt j n) ≡ true → n ≤ j
not_requested_last j n p = grind (arith, nat_tests)

module _ (n i least : ℕ) (low : i < n) (le : i ≤ least) where
  given_same : (j s g b : ℕ) → least ≤ g → times i (given_by n (Drew j s) (Glanced g b)) ≡ times i (j ∷ [])
  given_same j s g b above = dite (ℕ_discrete j i)
      (λ is. let p : nat_lt j n ≡ true = grind (arith, nat_tests) in let q : nat_le j g ≡ true = grind (arith, nat_tests) in ap (times i) (yes_cond j (nat_lt j n) (nat_le j g) p q))
      (λ is. let z = one_else i j is in no_weight i j (nat_lt j n && nat_le j g) z ∙ omega arith)

  past_last : (j : ℕ) → n ≤ j → 0 ≡ times i (j ∷ [])
  past_last j high = let z = one_else i j (λ e. omega arith) in omega arith

  same_one : (e f : Event) → (not (asks n e) || answers f) ≡ true → ((g b : ℕ) → f ≡ Glanced g b → least ≤ g) → times i (given_by n e f) ≡ times i (drawn_by e)
  same_one (Drew j s) (Drew k t) p above = past_last j (not_requested j n p)
  same_one (Drew j s) (Reported k) p above = past_last j (not_requested j n p)
  same_one (Drew j s) (Glanced g b) p above = given_same j s g b (above g b refl)
  same_one (Reported j) f p above = refl
  same_one (Glanced g b) f p above = refl

  last_one : (e : Event) → not (asks n e) ≡ true → 0 ≡ times i (drawn_by e)
  last_one (Drew j s) p = past_last j (not_requested_last j n p)
  last_one (Reported j) p = refl
  last_one (Glanced g b) p = refl

  same_from : (e : Event) (es : List Event) → is_whole_from n e es ≡ true → ((g b : ℕ) → Has es (Glanced g b) → least ≤ g) → times i (given_from n e es) ≡ times i (draws (e ∷ es))
  same_from e [] p above = let l = last_one e p in omega (arith, weigh_append (one_at i) (drawn_by e) [])
  same_from e (f ∷ fs) p above =
      let r = same_from f fs (and_right (not (asks n e) || answers f) (is_whole_from n f fs) p) (λ g b h. above g b (suc h.0, h.1)) in
      let o = same_one e f (and_left (not (asks n e) || answers f) (is_whole_from n f fs) p) (λ g b is. above g b (0, ap some is)) in
      omega (arith, weigh_append (one_at i) (given_by n e f) (given_from n f fs), weigh_append (one_at i) (drawn_by e) (draws (f ∷ fs)))

  -- a number that is at most the least reported was given as often as it was drawn
  pub given_as_drawn : (es : List Event) → is_whole n es ≡ true → ((g b : ℕ) → Has es (Glanced g b) → least ≤ g) → times i (given n es) ≡ times i (draws es)
  given_as_drawn [] p above = refl
  given_as_drawn (e ∷ es) p above = same_from e es p (λ g b h. above g b (suc h.0, h.1))

module _ (n i least : ℕ) (le : i ≤ least) where
  skip_none : (j s g b : ℕ) → least ≤ g → times i (skipped_by n (Drew j s) (Glanced g b)) ≡ 0
  skip_none j s g b above = dite (ℕ_discrete j i)
      (λ is. let q : nat_lt g j ≡ false = grind (arith, nat_tests) in ap (times i) (no_cond j (nat_lt j n) (nat_lt g j) q))
      (λ is. no_weight i j (nat_lt j n && nat_lt g j) (one_else i j is))

  skips_one : (e f : Event) → ((g b : ℕ) → f ≡ Glanced g b → least ≤ g) → times i (skipped_by n e f) ≡ 0
  skips_one (Drew j s) (Drew k t) above = refl
  skips_one (Drew j s) (Reported k) above = refl
  skips_one (Drew j s) (Glanced g b) above = skip_none j s g b (above g b refl)
  skips_one (Reported j) f above = refl
  skips_one (Glanced g b) f above = refl

  skips_from : (e : Event) (es : List Event) → ((g b : ℕ) → Has es (Glanced g b) → least ≤ g) → times i (skipped_from n e es) ≡ 0
  skips_from e [] above = refl
  skips_from e (f ∷ fs) above =
      let r = skips_from f fs (λ g b h. above g b (suc h.0, h.1)) in
      let o = skips_one e f (λ g b is. above g b (0, ap some is)) in
      omega (arith, weigh_append (one_at i) (skipped_by n e f) (skipped_from n f fs))

  -- a number that is at most the least reported was never skipped
  pub none_skipped : (es : List Event) → ((g b : ℕ) → Has es (Glanced g b) → least ≤ g) → times i (skipped n es) ≡ 0
  none_skipped [] above = refl
  none_skipped (e ∷ es) above = skips_from e es (λ g b h. above g b (suc h.0, h.1))

-- all that settling tells of the one pass
pub record Facts (n : ℕ) (v : Known) (least : ℕ) : Type 0 where
  pub below : (m : ℕ) × (m ≤ n + 1024) × IsEachBelow m (draws v.events)
  pub reports : FindReports n v.events
  pub is_least : IsLeast n v.events least
  pub drawn : v.ended ≡ true → (i : ℕ) → i < n → times i (draws v.events) ≡ 1
  pub once : v.ended ≡ true → (i : ℕ) → i < n → i ≤ least → times i (given n v.events) ≡ 1
  pub none : (i : ℕ) → i ≤ least → times i (skipped n v.events) ≡ 0

pub settles : (n id : ℕ) (v : Known) (least : ℕ) (ws : List ℕ) (xs : List (Unit {0})) → Final (Seen (Shows n) id v) ws xs → get_elem? ws 1 ≡ some least → v.parts ≡ 1024 → is_whole n v.events ≡ true → Facts n v least
settles n id v least ws xs (s, seen, shown, _, _) word all whole =
    let fault : ℕ = seen.0.1 in
    let core = seen.0.3 in
    let is : fault ≡ least = some-injective fault least (ap (λ l. get_elem? l 1) (sym seen.0.2 ∙ shown) ∙ word) in
    let found = found n seen.0.0 fault s.views id v core seen.1 all in
    let above = λ (g b : ℕ) (h : Has v.events (Glanced g b)). subst (λ k. k ≤ g) is (found g b h) in
    record {
      below = (seen.0.0, next_bounded n seen.0.0 fault s.views core, each_below n seen.0.0 fault s.views id v core seen.1 all);
      reports = find_reports n seen.0.0 fault s.views id v core seen.1 all;
      is_least = subst (IsLeast n v.events) is (is_least n seen.0.0 fault s.views id v core seen.1 all);
      drawn = all_drawn n seen.0.0 fault s.views id v core seen.1 all;
      once = λ over i low le. (given_as_drawn n i least low le v.events whole above ∙ all_drawn n seen.0.0 fault s.views id v core seen.1 all over i low);
      none = λ i le. none_skipped n i least le v.events above;
    }
