-- What a search by instants finds among transitions that rise.
use Rattle.std.proofs.Common.{◌≡◌, ℕ, zero, suc, ◌+◌, ◌<◌, ◌≤◌, ℤ, ◌<ℤ◌, ◌≤ℤ◌, inl, inr, List, [], ◌∷◌, ◌++◌, length, get_or, take, drop, Option, Some, None, All, AllPairs, refl, ap, sym, subst, arith, length-drop, get_or-drop}
use Rattle.std.specs.Prelude.{IsSomeAnd, slice_get, MatchOption}
use Rattle.std.proofs.lemmas.Int.{ints}
use Rattle.std.proofs.lemmas.List.{nil_from_length}
use Rattle.std.proofs.lemmas.List.Elements.{All-nil}
use Rattle.std.proofs.lemmas.Option.{same_Some, slice_get_within, get_or_from_slice_get}
use Rattle.zic_base.specs.State.{Shown}
use Rattle.zic_posix.specs.Footer.{TzString}
use Rattle.zic_posix.specs.Meaning.{Means}
use Rattle.zic_tzif.specs.declared.content.Change.{Change}
use Rattle.zic_tzif.specs.Content.{Content, IsFooter, IsStateOfType}
use Rattle.zic_tzif.specs.Answer.{IsLastChange, IsBeforeLast, IsTypeAt, Gives, IsUnspecified}
use Rattle.zic_tzif.specs.Block.{changes_at}
use Rattle.zic_tzif.specs.code.After.{IsNumberAfter, IsStateAfter}
use Rattle.zic_tzif.specs.code.Window.{IsSplit}
use Rattle.zic_tzif.proofs.Transitions.{changes_length}

-- ---- times and numbers

-- the instants of transitions are their times
pub instant_at : (times : List ℤ) (numbers : List ℕ) → length times ≡ length numbers → (k : ℕ) (d : Change)
    → (get_or (changes_at times numbers) k d).instant ≡ get_or times k d.instant
instant_at [] numbers same k d = refl
instant_at (time ∷ times) [] same k d = absurd (omega arith)
instant_at (time ∷ times) (number ∷ numbers) same zero d = refl
instant_at (time ∷ times) (number ∷ numbers) same (suc k) d = instant_at times numbers (omega (arith, same)) k d

-- times of transitions that rise do so
pub times_rise : (times : List ℤ) (numbers : List ℕ) → length times ≡ length numbers
    → AllPairs (λ (a b : Change). a.instant <ℤ b.instant) (changes_at times numbers) → AllPairs (λ a b. a <ℤ b) times
times_rise times numbers same rising i j d before within =
    let e : Change = record { instant = d; number = 0 } in
    let long = changes_length times numbers same in
    let less : (get_or (changes_at times numbers) i e).instant <ℤ (get_or (changes_at times numbers) j e).instant = rising i j e before (omega (arith, within, long)) in
    let first = subst (λ (z : ℤ). z <ℤ (get_or (changes_at times numbers) j e).instant) (instant_at times numbers same i e) less in
    subst (λ (z : ℤ). get_or times i d <ℤ z) (instant_at times numbers same j e) first

-- The first so many transitions aren't after t, and the others are.
pub record IsFound (changes : List Change) (t : ℤ) (n : ℕ) : Type 0 where
  pub not_after : (k : ℕ) → k < n → (d : Change) → (get_or changes k d).instant ≤ℤ t
  pub after : (k : ℕ) → n ≤ k → (d : Change) → k < length changes → t <ℤ (get_or changes k d).instant

pub found : (times : List ℤ) (numbers : List ℕ) (t : ℤ) (n : ℕ) → length times ≡ length numbers → IsSplit times t n → IsFound (changes_at times numbers) t n
found times numbers t n same split = record {
  not_after = λ k below d. subst (λ (z : ℤ). z ≤ℤ t) (sym (instant_at times numbers same k d)) (split.not_after k below d.instant);
  after = λ k from d within.
      let long = changes_length times numbers same in
      subst (λ (z : ℤ). t <ℤ z) (sym (instant_at times numbers same k d)) (split.after k from (omega (arith, within, long)) d.instant);
}

-- the number of a transition's type
pub number_at : (times : List ℤ) (numbers : List ℕ) (k m : ℕ) → length times ≡ length numbers → slice_get numbers k ≡ Some m
    → IsSomeAnd (slice_get (changes_at times numbers) k) (λ c. m ≡ c.number)
number_at [] [] k m same at = absurd cc
number_at [] (number ∷ numbers) k m same at = absurd (omega (arith, same))
number_at (time ∷ times) [] k m same at = absurd (omega (arith, same))
number_at (time ∷ times) (number ∷ numbers) zero m same at = sym (same_Some number m at)
number_at (time ∷ times) (number ∷ numbers) (suc k) m same at = number_at times numbers k m (omega (arith, same)) at

pub numbered : (changes : List Change) (count number k : ℕ) → count ≡ suc k → IsSomeAnd (slice_get changes k) (λ c. number ≡ c.number) → IsNumberAfter changes count number
numbered changes zero number k is at = absurd (omega (arith, is))
numbered changes (suc j) number k is at = subst (λ (i : ℕ). IsSomeAnd (slice_get changes i) (λ c. number ≡ c.number)) (let e : k ≡ j = omega (arith, is) in e) at

-- ---- a list at one of its members

some_of : {A : Type 0} (P : A → Type 0) (o : Option A) → IsSomeAnd o P → (x : A) × (o ≡ Some x) × P x
some_of P None is = absurd is
some_of P (Some x) is = (x, refl, is)

around : (changes : List Change) (k : ℕ) (c : Change) → slice_get changes k ≡ Some c → changes ≡ take k changes ++ c ∷ drop (suc k) changes
around [] k c at = absurd cc
around (x ∷ changes) zero c at = ap (λ (y : Change). y ∷ changes) (same_Some x c at)
around (x ∷ changes) (suc k) c at = ap (λ (rest : List Change). x ∷ rest) (around changes k c at)

pub same_item : (changes : List Change) (k : ℕ) (d : Change) → k < length changes → get_or changes k (get_or changes k d) ≡ get_or changes k d
same_item [] k d within = absurd (omega arith)
same_item (x ∷ changes) zero d within = refl
same_item (x ∷ changes) (suc k) d within = same_item changes k d (omega (arith, within))

-- ---- where the search ends

module _ (content : Content) (t : ℤ) (n : ℕ) (point : IsFound content.changes t n) where
  after_from : (k : ℕ) → n ≤ k → (d : Change) → k < length content.changes → t <ℤ (get_or content.changes k d).instant
  after_from k from d within = point.after k from d within

  not_after_below : (k : ℕ) → k < n → (d : Change) → (get_or content.changes k d).instant ≤ℤ t
  not_after_below k below d = point.not_after k below d

  last_at : (k : ℕ) (c : Change) → n ≡ suc k → slice_get content.changes k ≡ Some c → IsLastChange content t c
  last_at k c is at = record {
    earlier = take k content.changes;
    later = drop (suc k) content.changes;
    is = around content.changes k c at;
    not_after = subst (λ (d : Change). d.instant ≤ℤ t) (get_or_from_slice_get content.changes k c c at) (not_after_below k (omega (arith, is)) c);
    last = λ j d within.
        let longer = length-drop (suc k) content.changes in
        let after = after_from (suc k + j) (omega (arith, is)) d (omega (arith, within, longer)) in
        subst (λ (e : Change). t <ℤ e.instant) (sym (get_or-drop (suc k) content.changes j d)) after;
  }

  type_after : (count : ℕ) (number : ℕ) → n ≡ count → IsNumberAfter content.changes count number → IsTypeAt content t number
  type_after zero number is first = inl (λ k d within. after_from k (omega (arith, is)) d within, first)
  type_after (suc k) number is numbered =
      let found = some_of (λ (c : Change). number ≡ c.number) (slice_get content.changes k) numbered in
      inr (found.0, last_at k found.0 is found.1, found.2)

  pub before_last : n < length content.changes → IsBeforeLast content t
  before_last inside =
      let d : Change = record { instant = t; number = 0 } in
      (n, get_or content.changes n d, inside, same_item content.changes n d inside, after_from n (omega arith) d inside)

  pub not_before_last : length content.changes ≤ n → IsBeforeLast content t → ⊥
  not_before_last all before =
      let c = before.1 in
      let within = before.2 in
      let not_after : c.instant ≤ℤ t = subst (λ (d : Change). d.instant ≤ℤ t) before.3 (not_after_below before.0 (omega (arith, all, within)) c) in
      let after : t <ℤ c.instant = before.4 in
      omega (arith, ints, not_after, after)

  -- before the last transition the type after those that passed is in force
  pub gives_type : (state : Shown) → n < length content.changes → IsStateAfter content n state → Gives content t state
  gives_type state inside after = inl (inl (before_last inside), (after.0, type_after n after.0 refl after.1, after.2))

  -- then the footer
  pub gives_footer : (f : TzString) (state : Shown) → length content.changes ≤ n → IsFooter content f → Means f t state → Gives content t state
  gives_footer f state all footer means = inr (not_before_last all, (f, footer.spells, means))

  -- without one, local time is left open, where there is a transition
  pub leaves_open : (length content.changes ≡ 0 → ⊥) → length content.changes ≤ n → content.text ≡ [] → IsUnspecified content t
  leaves_open some all none = record { some = λ e. some (ap (λ (changes : List Change). length changes) e); after = not_before_last all; no_footer = none }

-- ---- the footer that is kept

pub stored_footer : (content : Content) (footer : Option TzString) (f : TzString) → MatchOption footer (content.text ≡ []) (IsFooter content) → footer ≡ Some f → IsFooter content f
stored_footer content None f is e = absurd cc
stored_footer content (Some g) f is e = subst (IsFooter content) (same_Some g f e) is

pub stored_none : (content : Content) (footer : Option TzString) → MatchOption footer (content.text ≡ []) (IsFooter content) → footer ≡ None → content.text ≡ []
stored_none content None is e = is
stored_none content (Some g) is e = absurd cc

-- a number after some transitions is that of a type
pub number_has_type : (content : Content) (count number : ℕ) → All (λ (c : Change). c.number < length content.types) content.changes → 1 ≤ length content.types
    → IsNumberAfter content.changes count number → number < length content.types
number_has_type content zero number have some is = omega (arith, some, is)
number_has_type content (suc k) number have some is =
    let c = some_of (λ (c : Change). number ≡ c.number) (slice_get content.changes k) is in
    let within = slice_get_within content.changes k c.0 c.1 in
    let below : c.0.number < length content.types = subst (λ (d : Change). d.number < length content.types) (get_or_from_slice_get content.changes k c.0 c.0 c.1) (have k c.0 within) in
    let same = c.2 in
    omega (arith, below, same)

-- with neither a transition nor a footer local time is that of the first type
pub gives_first : (content : Content) (t : ℤ) (state : Shown) → length content.changes ≡ 0 → content.text ≡ [] → IsStateOfType content 0 state → Gives content t state
gives_first content t state no_changes no_text is =
    let none = nil_from_length content.changes no_changes in
    let before = subst (All (λ (c : Change). t <ℤ c.instant)) (sym none) (All-nil (λ (c : Change). t <ℤ c.instant)) in
    inl (inr (none, no_text), (0, inl (before, refl), is))
