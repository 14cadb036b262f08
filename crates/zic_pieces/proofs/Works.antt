-- What was done over some events and over those after them.
use Rattle.std.proofs.Common.{◌≡◌, ◌⊎◌, ℕ, zero, suc, ◌+◌, ◌-◌, ◌<◌, ◌≤◌, Bool, true, false, nat_lt, List, [], ◌∷◌, ◌++◌, cond, Option, Some, None, Result, Ok, refl, sym, ap, ◌∙◌, subst, inl, inr, ⊎_elim, arith, append_assoc}
use Rattle.std.proofs.lemmas.List.{append-nil}
use Rattle.std.proofs.lemmas.Bool.Decides.{nat_tests}
use mathlib.Core.Option.{some, some-injective, some-ne-none}
use mathlib.Core.Logic.{dite}
use native.Mathlib.Decide.{ℕ_discrete, dec_le}
use lib.ListN.{get_elem?}
use Rattle.atomic_table.proofs.Lists.{at_longer}
use Rattle.zic_pieces.specs.declared.pass.Event.{Event}
use Rattle.zic_pieces.specs.declared.pass.Event.TheVariants.{Drew, Reported, Glanced}
use Rattle.zic_pieces.specs.declared.task.PieceStop.{PieceStop}
use Rattle.zic_pieces.specs.declared.pass.Known.{Known}
use Rattle.zic_pieces.specs.declared.claims.Claim.TheVariants.{Do, Skip, End}
use Rattle.zic_pieces.specs.Events.{Has, past, times, one_at}
use Rattle.zic_pieces.specs.Given.{given}
use Rattle.zic_pieces.specs.Core.{drew, reported, glanced}
use Rattle.zic_pieces.specs.Passes.{IsSound}
use Rattle.zic_pieces.specs.Answers.{Answers, DrawsThenGlances}
use Rattle.zic_pieces.specs.Task.{IsReason}
use Rattle.zic_pieces.specs.code.Work.{the_lesser, HasValueAt, AddsValue, IsHalt, IsWork}
use Rattle.zic_pieces.proofs.Totals.{weigh_append, past_append}
use Rattle.zic_pieces.proofs.Members.{has_front, has_back, has_either, has_none, has_one}
use Rattle.zic_pieces.proofs.Givens.{given_append, whole_append, given_do, given_skip, given_end, whole_claim, whole_end}
use Rattle.zic_pieces.proofs.Sounds.{one_else}

pub lesser_none : {F : Type 0} → (h : Option (ℕ × PieceStop F)) → the_lesser h None ≡ h
lesser_none None = refl
lesser_none (Some x) = refl

at_front : {A : Type 0} (xs ys : List A) (a : A) → ((k : ℕ) × (get_elem? xs k ≡ some a)) → (k : ℕ) × (get_elem? (xs ++ ys) k ≡ some a)
at_front xs ys a h = (h.0, at_longer xs ys h.0 a h.1)

at_back : {A : Type 0} (xs ys : List A) (a : A) → ((k : ℕ) × (get_elem? ys k ≡ some a)) → (k : ℕ) × (get_elem? (xs ++ ys) k ≡ some a)
at_back [] ys a h = h
at_back (x ∷ xs) ys a h = let r = at_back xs ys a h in (suc r.0, r.1)

at_either : {A : Type 0} (xs ys : List A) (a : A) → ((k : ℕ) × (get_elem? (xs ++ ys) k ≡ some a)) → ((k : ℕ) × (get_elem? xs k ≡ some a)) ⊎ ((k : ℕ) × (get_elem? ys k ≡ some a))
at_either [] ys a h = inr h
at_either (x ∷ xs) ys a (zero, is) = inl (0, is)
at_either (x ∷ xs) ys a (suc k, is) = ⊎_elim (λ r. inl (suc r.0, r.1)) inr (at_either xs ys a (k, is))

module _ {X F : Type 0} (o : ℕ → Result X F → Type 0) (n : ℕ) where
  abbrev Halt : Type 0
  Halt = Option (ℕ × PieceStop F)

  halt_first : (xs ys : List Event) (h : ℕ × PieceStop F) → IsHalt o n xs (Some h) → ((i : ℕ) → Has ys (Reported i) → h.0 ≤ i) → IsHalt o n (xs ++ ys) (Some h)
  halt_first xs ys h is rest = (is.0, has_front xs ys (Reported h.0) is.1, (λ i m. ⊎_elim (is.2 i) (rest i) (has_either xs ys (Reported i) m)), is.3)

  halt_last : (xs ys : List Event) (h : ℕ × PieceStop F) → IsHalt o n ys (Some h) → ((i : ℕ) → Has xs (Reported i) → h.0 ≤ i) → IsHalt o n (xs ++ ys) (Some h)
  halt_last xs ys h is rest = (is.0, has_back xs ys (Reported h.0) is.1, (λ i m. ⊎_elim (rest i) (is.2 i) (has_either xs ys (Reported i) m)), is.3)

  halt_two : (xs ys : List Event) (h k : ℕ × PieceStop F) (b : Bool) → nat_lt k.0 h.0 ≡ b → IsHalt o n xs (Some h) → IsHalt o n ys (Some k) → IsHalt o n (xs ++ ys) (Some (cond b k h))
  halt_two xs ys h k true is p q = let low : k.0 < h.0 = grind (arith, nat_tests) in halt_last xs ys k q (λ i m. (let a = p.2 i m in omega arith))
  halt_two xs ys h k false is p q = let low : h.0 ≤ k.0 = grind (arith, nat_tests) in halt_first xs ys h p (λ i m. (let a = q.2 i m in omega arith))

  halt_append : (xs ys : List Event) (h k : Halt) → IsHalt o n xs h → IsHalt o n ys k → IsHalt o n (xs ++ ys) (the_lesser h k)
  halt_append xs ys None None p q = λ i m. ⊎_elim (p i) (q i) (has_either xs ys (Reported i) m)
  halt_append xs ys None (Some k) p q = halt_last xs ys k q (λ i m. absurd (p i m))
  halt_append xs ys (Some h) None p q = halt_first xs ys h p (λ i m. absurd (q i m))
  halt_append xs ys (Some h) (Some k) p q = halt_two xs ys h k (nat_lt k.0 h.0) refl p q

  -- what was done over some events, and over those after them
  pub work_append : (xs ys : List Event) (a b : List (ℕ × X)) (h k : Halt) → IsWork o n xs a h → IsWork o n ys b k → IsWork o n (xs ++ ys) (a ++ b) (the_lesser h k)
  work_append xs ys a b h k p q = record {
    whole = whole_append n xs ys p.whole q.whole;
    own = λ i x m. ⊎_elim (p.own i x) (q.own i x) (at_either a b (i, x) m);
    done = λ i more. (let e = ap (times i) (given_append n xs ys p.whole) ∙ weigh_append (one_at i) (given n xs) (given n ys) in
        dite (dec_le 1 (times i (given n xs)))
        (λ some_front. ⊎_elim (λ m. inl (m.0, at_front a b (i, m.0) m.1)) (λ m. inr (has_front xs ys (Reported i) m)) (p.done i some_front))
        (λ none_front. ⊎_elim (λ m. inl (m.0, at_back a b (i, m.0) m.1)) (λ m. inr (has_back xs ys (Reported i) m)) (q.done i (omega arith))));
    halts = halt_append xs ys h k p.halts q.halts;
  }

  no_values : (i : ℕ) (x : X) → HasValueAt {X = X} [] i x → ⊥
  no_values i x m = some-ne-none (i, x) (sym m.1)

  -- nothing was done yet
  pub work_none : IsWork o n [] [] None
  work_none = record { whole = refl; own = λ i x m. absurd (no_values i x m); done = λ i more. absurd (omega arith); halts = λ i m. has_none (Reported i) m }

  no_report : (i j s : ℕ) → Has (Drew j s ∷ []) (Reported i) → ⊥
  no_report i j s m = let e = has_one (Drew j s) (Reported i) m in absurd (cc)

  -- a draw past the last piece
  pub work_end : (i s : ℕ) → n ≤ i → IsWork o n (Drew i s ∷ []) [] None
  work_end i s high = record {
    whole = whole_end n i s [] refl high;
    own = λ j x m. absurd (no_values j x m);
    done = λ j more. (let e = ap (times j) (given_end n i s [] refl) in absurd (omega arith));
    halts = λ j m. no_report j i s m;
  }

  no_report_two : (i j s g b : ℕ) → Has (Drew j s ∷ Glanced g b ∷ []) (Reported i) → ⊥
  no_report_two i j s g b m = ⊎_elim (no_report i j s) (λ r. (let e = has_one (Glanced g b) (Reported i) r in absurd (cc))) (has_either (Drew j s ∷ []) (Glanced g b ∷ []) (Reported i) m)

  -- a claim that skips a piece
  pub work_skip : (i s g b : ℕ) → g < i → IsWork o n (Drew i s ∷ Glanced g b ∷ []) [] None
  work_skip i s g b less = record {
    whole = whole_claim n i s g b [] refl;
    own = λ j x m. absurd (no_values j x m);
    done = λ j more. (let e = ap (times j) (given_skip n i s g b [] refl less) in absurd (omega arith));
    halts = λ j m. no_report_two j i s g b m;
  }

  -- which number a claim gave
  the_given : (i s g b j : ℕ) → i < n → i ≤ g → 0 < times j (given n (Drew i s ∷ Glanced g b ∷ [])) → i ≡ j
  the_given i s g b j low le more = let e = ap (times j) (given_do n i s g b [] refl low le) in
      dite (ℕ_discrete i j) (λ is. is) (λ isnt. (let z = one_else j i isnt in absurd (omega arith)))

  one_value : (i j : ℕ) (x y : X) → HasValueAt ((i, x) ∷ []) j y → ◌≡◌ {A = ℕ × X} (i, x) (j, y)
  one_value i j x y (zero, is) = some-injective (i, x) (j, y) is
  one_value i j x y (suc k, is) = absurd (some-ne-none (j, y) (sym is))

  -- a claim that gives a piece, whose value is kept
  pub work_keep : (i s g b : ℕ) (x : X) → i < n → i ≤ g → o i (Ok x) → IsWork o n (Drew i s ∷ Glanced g b ∷ []) ((i, x) ∷ []) None
  work_keep i s g b x low le is = record {
    whole = whole_claim n i s g b [] refl;
    own = λ j y m. subst (λ (p : ℕ × X). o p.0 (Ok p.1) × (p.0 < n)) (one_value i j x y m) (is, low);
    done = λ j more. inl (x, (0, ap (λ k. some (k, x)) (the_given i s g b j low le more)));
    halts = λ j m. no_report_two j i s g b m;
  }

  -- a claim that gives a piece, which is reported
  pub work_halt : (i s g b : ℕ) (r : PieceStop F) → i < n → i ≤ g → IsReason (o i) r → IsWork o n ((Drew i s ∷ Glanced g b ∷ []) ++ Reported i ∷ []) [] (Some (i, r))
  work_halt i s g b r low le is =
      let two : List Event = Drew i s ∷ Glanced g b ∷ [] in
      record {
        whole = whole_append n two (Reported i ∷ []) (whole_claim n i s g b [] refl) refl;
        own = λ j x m. absurd (no_values j x m);
        done = λ j more. (let e = ap (times j) (given_append n two (Reported i ∷ []) (whole_claim n i s g b [] refl) ∙ append-nil (given n two)) in
            inr (has_back two (Reported i ∷ []) (Reported j) (0, ap (λ k. some (Reported k)) (the_given i s g b j low le (omega arith)))));
        halts = (
          low,
          has_back two (Reported i ∷ []) (Reported i) (0, refl),
          (λ j m. ⊎_elim (λ q. absurd (no_report_two j i s g b q)) (λ q. (let e : Reported i ≡ Reported j = has_one (Reported i) (Reported j) q in let same : i ≡ j = cc in omega arith)) (has_either two (Reported i ∷ []) (Reported j) m)),
          is,
        );
      }

-- the draw and the glance of a claim, as two events at the end
claim_events : (es : List Event) (i s g b : ℕ) → (es ++ Drew i s ∷ []) ++ Glanced g b ∷ [] ≡ es ++ Drew i s ∷ Glanced g b ∷ []
claim_events es i s g b = append_assoc es (Drew i s ∷ []) (Glanced g b ∷ [])

module _ {X F : Type 0} (o : ℕ → Result X F → Type 0) (v : Known) (vals : List (ℕ × X)) (halt : Option (ℕ × PieceStop F)) (so_far : IsWork o v.pieces v.events vals halt) where
  pub step_end : (w : Known) → Answers v End w → IsWork o w.pieces w.events vals halt
  step_end w answer = ⊎_elim
      (λ (same : (v.ended ≡ true) × (w ≡ v)). subst (λ (u : Known). IsWork o u.pieces u.events vals halt) (sym same.1) so_far)
      (λ over. (let i : ℕ = over.0 in
      let more = work_append o v.pieces v.events (Drew i v.seen ∷ []) vals [] halt None so_far (work_end o v.pieces i v.seen over.2) in
      let tidy = subst (λ (h : Option (ℕ × PieceStop F)). IsWork o v.pieces (v.events ++ Drew i v.seen ∷ []) vals h) (lesser_none halt) (subst (λ (l : List (ℕ × X)). IsWork o v.pieces (v.events ++ Drew i v.seen ∷ []) l (the_lesser halt None)) (append-nil vals) more) in
      subst (λ (u : Known). IsWork o u.pieces u.events vals halt) (sym over.3) tidy))
      answer

  pub step_skip : (i : ℕ) (w : Known) → Answers v (Skip i) w → IsWork o w.pieces w.events vals halt
  step_skip i w (g, draws, less) =
      let b : ℕ = past (drew i v).events in
      let two : List Event = Drew i v.seen ∷ Glanced g b ∷ [] in
      let more = work_append o v.pieces v.events two vals [] halt None so_far (work_skip o v.pieces i v.seen g b less) in
      let tidy = subst (λ (h : Option (ℕ × PieceStop F)). IsWork o v.pieces (v.events ++ two) vals h) (lesser_none halt) (subst (λ (l : List (ℕ × X)). IsWork o v.pieces (v.events ++ two) l (the_lesser halt None)) (append-nil vals) more) in
      subst (λ (u : Known). IsWork o u.pieces u.events vals halt) (sym draws.3) (subst (λ (es : List Event). IsWork o v.pieces es vals halt) (sym (claim_events v.events i v.seen g b)) tidy)

  pub step_keep : (i : ℕ) (w : Known) (vals' : List (ℕ × X)) → Answers v (Do i) w → AddsValue (o i) i vals vals' → IsWork o w.pieces w.events vals' halt
  step_keep i w vals' (g, draws, le) (x, is, adds) =
      let b : ℕ = past (drew i v).events in
      let two : List Event = Drew i v.seen ∷ Glanced g b ∷ [] in
      let more = work_append o v.pieces v.events two vals ((i, x) ∷ []) halt None so_far (work_keep o v.pieces i v.seen g b x draws.1 le is) in
      let tidy = subst (λ (h : Option (ℕ × PieceStop F)). IsWork o v.pieces (v.events ++ two) vals' h) (lesser_none halt) (subst (λ (l : List (ℕ × X)). IsWork o v.pieces (v.events ++ two) l (the_lesser halt None)) (sym adds) more) in
      subst (λ (u : Known). IsWork o u.pieces u.events vals' halt) (sym draws.3) (subst (λ (es : List Event). IsWork o v.pieces es vals' halt) (sym (claim_events v.events i v.seen g b)) tidy)

  pub step_halt : (i : ℕ) (w u : Known) (vals' : List (ℕ × X)) (r : PieceStop F) (halt' : Option (ℕ × PieceStop F)) → Answers v (Do i) w → u ≡ reported i w → IsReason (o i) r → vals' ≡ vals → halt' ≡ the_lesser halt (Some (i, r))
      → IsWork o u.pieces u.events vals' halt'
  step_halt i w u vals' r halt' (g, draws, le) notified is same lower =
      let b : ℕ = past (drew i v).events in
      let two : List Event = Drew i v.seen ∷ Glanced g b ∷ [] in
      let low : Option (ℕ × PieceStop F) = the_lesser halt (Some (i, r)) in
      let more = work_append o v.pieces v.events (two ++ Reported i ∷ []) vals [] halt (Some (i, r)) so_far (work_halt o v.pieces i v.seen g b r draws.1 le is) in
      let tidy = subst (λ (h : Option (ℕ × PieceStop F)). IsWork o v.pieces (v.events ++ (two ++ Reported i ∷ [])) vals' h) (sym lower) (subst (λ (l : List (ℕ × X)). IsWork o v.pieces (v.events ++ (two ++ Reported i ∷ [])) l low) (append-nil vals ∙ sym same) more) in
      let place : ((v.events ++ Drew i v.seen ∷ []) ++ Glanced g b ∷ []) ++ Reported i ∷ [] ≡ v.events ++ (two ++ Reported i ∷ []) = ap (λ (es : List Event). es ++ Reported i ∷ []) (claim_events v.events i v.seen g b) ∙ append_assoc v.events two (Reported i ∷ []) in
      subst (λ (k : Known). IsWork o k.pieces k.events vals' halt') (sym (notified ∙ ap (reported i) draws.3)) (subst (λ (es : List Event). IsWork o v.pieces es vals' halt') (sym place) tidy)

-- a claim that draws a piece brings the end nearer
pub nearer : (i g : ℕ) (v w : Known) → DrawsThenGlances i g v w → IsSound w → w.pieces + 1025 - past w.events < v.pieces + 1025 - past v.events
nearer i g v w draws sound =
    let d = draws.0.1 in
    let is : past w.events ≡ past (glanced g (drew i v)).events = ap (λ (u : Known). past u.events) draws.3 in
    let p : w.pieces ≡ v.pieces = ap (λ (u : Known). u.pieces) draws.3 in
    let a = past_append (drew i v).events (Glanced g (past (drew i v).events) ∷ []) in
    let b = past_append v.events (Drew i v.seen ∷ []) in
    let top = sound.bounded in
    omega arith

pub report_past : (i : ℕ) (w u : Known) → u ≡ reported i w → u.pieces + 1025 - past u.events ≡ w.pieces + 1025 - past w.events
report_past i w u is = ap (λ (k : Known). k.pieces + 1025 - past k.events) is ∙ (let a = past_append w.events (Reported i ∷ []) in omega arith)

pub work_as : {X F : Type 0} (o : ℕ → Result X F → Type 0) (n m : ℕ) (es ds : List Event) (a b : List (ℕ × X)) (h k : Option (ℕ × PieceStop F)) → IsWork o n es a h → m ≡ n → ds ≡ es → b ≡ a → k ≡ h → IsWork o m ds b k
work_as {X} {F} o n m es ds a b h k w p q r s =
    subst (λ (z : ℕ × List Event × List (ℕ × X) × Option (ℕ × PieceStop F)). IsWork o z.0 z.1 z.2 z.3) (λ i. (sym p i, sym q i, sym r i, sym s i)) w
