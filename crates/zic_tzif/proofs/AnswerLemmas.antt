-- What a content answers at an instant, and that it answers once.
use Rattle.std.proofs.Common.{◌≡◌, ℕ, suc, ◌<◌, ◌≤◌, ℤ, pos, ◌<ℤ◌, ◌≤ℤ◌, ◌⊎◌, inl, inr, false, List, [], ◌∷◌, ◌++◌, length, get_or, Option, Some, None, All, Any, AllPairs, refl, ap, sym, subst, ◌∙◌, arith, length-append}
use Rattle.std.specs.Prelude.{IsSomeAnd, slice_get}
use Rattle.std.proofs.lemmas.Int.{ints, by_lt_z}
use Rattle.std.proofs.lemmas.List.Elements.{All-nil, All-cons, All-head, All-tail, All-weaker}
use Rattle.std.proofs.lemmas.Option.{slice_get-get_or}
use Rattle.zic_base.specs.State.{Shown}
use Rattle.zic_posix.specs.Footer.{TzString}
use Rattle.zic_posix.specs.Grammar.{Spells}
use Rattle.zic_posix.specs.Meaning.{Means}
use Rattle.zic_posix.proofs.Meanings.{means_some, means_only}
use Rattle.zic_posix.proofs.StringLemmas.{spells_one, limits_of}
use Rattle.zic_tzif.specs.declared.content.Change.{Change}
use Rattle.zic_tzif.specs.declared.content.LocalType.{LocalType}
use Rattle.zic_tzif.specs.Content.{Content, IsStateOfType, type_state}
use Rattle.zic_tzif.specs.Answer.{IsLastChange, IsBeforeAll, IsBeforeLast, IsTypeAt, HasNeither, Gives, IsUnspecified, Answers}
use Rattle.zic_tzif.specs.Reading.{HasFooter}
use Rattle.zic_tzif.proofs.Transitions.{AllPairs-first, AllPairs-rest}

-- ---- the type in force

-- every transition is after t, or one is the last that isn't
last_of : (changes : List Change) (t : ℤ) → AllPairs (λ (a b : Change). a.instant <ℤ b.instant) changes
    → All (λ (c : Change). t <ℤ c.instant) changes
    ⊎ ((c : Change) × (earlier later : List Change) × (changes ≡ earlier ++ c ∷ later) × (c.instant ≤ℤ t) × All (λ (other : Change). t <ℤ other.instant) later)
last_of [] t rising = inl (All-nil (λ (c : Change). t <ℤ c.instant))
last_of (c ∷ changes) t rising =
    by_lt_z t c.instant
    (λ before. inl (All-cons (λ (d : Change). t <ℤ d.instant) c changes before
    (All-weaker (λ (d : Change). c.instant <ℤ d.instant) (λ d. t <ℤ d.instant) (λ d above. omega (arith, ints, before, above)) changes
    (AllPairs-first (λ (a b : Change). a.instant <ℤ b.instant) c changes rising))))
    (λ not_after. elim (last_of changes t (AllPairs-rest (λ (a b : Change). a.instant <ℤ b.instant) c changes rising)) [
      | inl none ↦ inr (c, [], changes, refl, not_after, none)
      | inr found ↦ inr (found.0, c ∷ found.1, found.2, ap (λ (rest : List Change). c ∷ rest) found.3, found.4, found.5)
    ])

pub type_at : (content : Content) (t : ℤ) → AllPairs (λ (a b : Change). a.instant <ℤ b.instant) content.changes → (number : ℕ) × IsTypeAt content t number
type_at content t rising = elim (last_of content.changes t rising) [
  | inl none ↦ (0, inl (none, refl))
  | inr found ↦ (found.0.number, inr (found.0, record { earlier = found.1; later = found.2; is = found.3; not_after = found.4; last = found.5 }, refl))
]

-- a member of a list
member_of : (P : Change → Type 0) (earlier later : List Change) (c : Change) → All P (earlier ++ c ∷ later) → P c
member_of P [] later c each = All-head P c later each
member_of P (x ∷ earlier) later c each = member_of P earlier later c (All-tail P x (earlier ++ c ∷ later) each)

same_head : (a b : Change) (xs ys : List Change) → a ∷ xs ≡ b ∷ ys → a ≡ b
same_head a b xs ys same = cc

same_tail : (a b : Change) (xs ys : List Change) → a ∷ xs ≡ b ∷ ys → xs ≡ ys
same_tail a b xs ys same = cc

one_last : (t : ℤ) (earlier other_earlier later other_later : List Change) (a b : Change) → earlier ++ a ∷ later ≡ other_earlier ++ b ∷ other_later
    → a.instant ≤ℤ t → b.instant ≤ℤ t → All (λ (c : Change). t <ℤ c.instant) later → All (λ (c : Change). t <ℤ c.instant) other_later → a ≡ b
one_last t [] [] later other_later a b same from_a from_b last_a last_b = same_head a b later other_later same
one_last t [] (y ∷ other_earlier) later other_later a b same from_a from_b last_a last_b =
    let tail = same_tail a y later (other_earlier ++ b ∷ other_later) same in
    let above : t <ℤ b.instant = member_of (λ (c : Change). t <ℤ c.instant) other_earlier other_later b (subst (All (λ (c : Change). t <ℤ c.instant)) tail last_a) in
    absurd (omega (arith, ints, above, from_b))
one_last t (x ∷ earlier) [] later other_later a b same from_a from_b last_a last_b =
    let tail = same_tail x b (earlier ++ a ∷ later) other_later same in
    let above : t <ℤ a.instant = member_of (λ (c : Change). t <ℤ c.instant) earlier later a (subst (All (λ (c : Change). t <ℤ c.instant)) (sym tail) last_b) in
    absurd (omega (arith, ints, above, from_a))
one_last t (x ∷ earlier) (y ∷ other_earlier) later other_later a b same from_a from_b last_a last_b =
    one_last t earlier other_earlier later other_later a b (same_tail x y (earlier ++ a ∷ later) (other_earlier ++ b ∷ other_later) same) from_a from_b last_a last_b

not_before_all : (content : Content) (t : ℤ) (c : Change) → IsBeforeAll content t → IsLastChange content t c → ⊥
not_before_all content t c none found =
    let above : t <ℤ c.instant = member_of (λ (c : Change). t <ℤ c.instant) found.earlier found.later c (subst (All (λ (c : Change). t <ℤ c.instant)) found.is none) in
    omega (arith, ints, above, found.not_after)

one_type : (content : Content) (t : ℤ) (m n : ℕ) → IsTypeAt content t m → IsTypeAt content t n → m ≡ n
one_type content t m n (inl a) (inl b) = a.1 ∙ sym b.1
one_type content t m n (inl a) (inr b) = absurd (not_before_all content t b.0 a.0 b.1)
one_type content t m n (inr a) (inl b) = absurd (not_before_all content t a.0 b.0 a.1)
one_type content t m n (inr a) (inr b) =
    let same = one_last t a.1.earlier b.1.earlier a.1.later b.1.later a.0 b.0 (sym a.1.is ∙ b.1.is) a.1.not_after b.1.not_after a.1.last b.1.last in
    a.2 ∙ ap (λ (c : Change). c.number) same ∙ sym b.2

one_state_by : (names : List ℕ) (type : Option LocalType) (a b : Shown) → IsSomeAnd type (λ t. a ≡ type_state names t) → IsSomeAnd type (λ t. b ≡ type_state names t) → a ≡ b
one_state_by names None a b is other = absurd is
one_state_by names (Some t) a b is other = is ∙ sym other

pub one_state_of_type : (content : Content) (number : ℕ) (a b : Shown) → IsStateOfType content number a → IsStateOfType content number b → a ≡ b
one_state_of_type content number = one_state_by content.names (slice_get content.types number)

state_at : (names : List ℕ) (type : Option LocalType) (t : LocalType) → type ≡ Some t → (state : Shown) × IsSomeAnd type (λ t. state ≡ type_state names t)
state_at names None t is = absurd cc
state_at names (Some u) t is = (type_state names u, refl)

-- a type that is there has a state
pub state_of_type : (content : Content) (number : ℕ) → number < length content.types → (state : Shown) × IsStateOfType content number state
state_of_type content number below =
    let none : LocalType = record { offset = pos 0; daylight = false; place = 0 } in
    state_at content.names (slice_get content.types number) (get_or content.types number none) (slice_get-get_or content.types number none below)

-- ---- before the last transition, or not

some_after : (changes : List Change) (t : ℤ) → Any (λ (c : Change). t <ℤ c.instant) changes ⊎ All (λ (c : Change). c.instant ≤ℤ t) changes
some_after [] t = inr (All-nil (λ (c : Change). c.instant ≤ℤ t))
some_after (c ∷ changes) t =
    by_lt_z t c.instant (λ after. inl (0, c, omega arith, refl, after)) (λ not_after. elim (some_after changes t) [
      | inl some ↦ inl (suc some.0, some.1, let within = some.2 in omega (arith, within), some.3, some.4)
      | inr none ↦ inr (All-cons (λ (c : Change). c.instant ≤ℤ t) c changes not_after none)
    ])

none_after : (changes : List Change) (t : ℤ) → All (λ (c : Change). c.instant ≤ℤ t) changes → Any (λ (c : Change). t <ℤ c.instant) changes → ⊥
none_after changes t each some =
    let not_after : some.1.instant ≤ℤ t = subst (λ (c : Change). c.instant ≤ℤ t) some.3 (each some.0 some.1 some.2) in
    let after : t <ℤ some.1.instant = some.4 in
    omega (arith, ints, not_after, after)

-- ---- an answer

abbrev IsAnswered : Content → ℤ → Type 0
IsAnswered content t = (answer : Option Shown) × Answers content t answer

module _ (content : Content) (t : ℤ) (rising : AllPairs (λ (a b : Change). a.instant <ℤ b.instant) content.changes)
    (have_types : All (λ (c : Change). c.number < length content.types) content.changes) (some_type : 1 ≤ length content.types) where
  type_is_there : (number : ℕ) → IsTypeAt content t number → number < length content.types
  type_is_there number (inl first) = let zero_is = first.1 in omega (arith, zero_is, some_type)
  type_is_there number (inr found) =
      let c = found.0 in
      let below : c.number < length content.types = member_of (λ (c : Change). c.number < length content.types) found.1.earlier found.1.later c (subst (All (λ (c : Change). c.number < length content.types)) found.1.is have_types) in
      let is = found.2 in
      omega (arith, is, below)

  by_transitions : IsBeforeLast content t ⊎ HasNeither content → IsAnswered content t
  by_transitions why =
      let number = type_at content t rising in
      let state = state_of_type content number.0 (type_is_there number.0 number.1) in
      (Some state.0, inl (why, (number.0, number.1, state.1)))

  without_footer : (changes : List Change) → content.changes ≡ changes → content.text ≡ [] → (IsBeforeLast content t → ⊥) → IsAnswered content t
  without_footer [] is empty none = by_transitions (inr (is, empty))
  without_footer (c ∷ changes) is empty none = (None, record { some = λ e. absurd (let f = sym is ∙ e in cc); after = none; no_footer = empty })

  from_last : HasFooter content → (IsBeforeLast content t → ⊥) → IsAnswered content t
  from_last (inl empty) none = without_footer content.changes refl empty none
  from_last (inr footer) none =
      let f = footer.0 in
      let state = means_some f (limits_of content.version content.text f footer.1.spells) t in
      (Some state.0, inr (none, (f, footer.1.spells, state.1)))

  pub answer_at : HasFooter content → IsAnswered content t
  answer_at footer = elim (some_after content.changes t) [
    | inl before ↦ by_transitions (inl before)
    | inr after ↦ from_last footer (none_after content.changes t after)
  ]

-- ---- one answer

-- no string has an empty text
pub spells_none : (version : ℕ) (text : List ℕ) (f : TzString) → text ≡ [] → Spells version text f → ⊥
spells_none version text f empty spells =
    elim spells.spells_name.form [
      | inl plain ↦ let long = spells.spells_name.long in let e = ap (λ (xs : List ℕ). length xs) (sym empty ∙ spells.parts) in let n = ap (λ (xs : List ℕ). length xs) plain.0 in omega (arith, e, n, long, length-append spells.name (spells.offset ++ spells.rest))
      | inr quoted ↦ let e = ap (λ (xs : List ℕ). length xs) (sym empty ∙ spells.parts) in let n = ap (λ (xs : List ℕ). length xs) quoted.0 in omega (arith, e, n, length-append spells.name (spells.offset ++ spells.rest))
    ]

no_footer_with : (content : Content) (t : ℤ) (state : Shown) → IsBeforeLast content t ⊎ HasNeither content → (IsBeforeLast content t → ⊥) × ((f : TzString) × Spells content.version content.text f × Means f t state) → ⊥
no_footer_with content t state (inl before) footer = footer.0 before
no_footer_with content t state (inr one) footer = spells_none content.version content.text footer.1.0 one.1 footer.1.1

one_given : (content : Content) (t : ℤ) (a b : Shown) → Gives content t a → Gives content t b → a ≡ b
one_given content t a b (inl by_type) (inl other) =
    let same = one_type content t by_type.1.0 other.1.0 by_type.1.1 other.1.1 in
    one_state_of_type content by_type.1.0 a b by_type.1.2 (subst (λ n. IsStateOfType content n b) (sym same) other.1.2)
one_given content t a b (inl by_type) (inr footer) = absurd (no_footer_with content t b by_type.0 footer)
one_given content t a b (inr footer) (inl by_type) = absurd (no_footer_with content t a by_type.0 footer)
one_given content t a b (inr footer) (inr other) =
    let same = spells_one content.version content.text footer.1.0 other.1.0 footer.1.1 other.1.1 in
    means_only footer.1.0 t a b footer.1.2 (subst (λ (f : TzString). Means f t b) (sym same) other.1.2)

not_open : (content : Content) (t : ℤ) (state : Shown) → IsUnspecified content t → Gives content t state → ⊥
not_open content t state left (inl by_type) = elim by_type.0 [ inl before ↦ left.after before | inr one ↦ left.some one.0 ]
not_open content t state left (inr footer) = spells_none content.version content.text footer.1.0 left.no_footer footer.1.1

pub one_answer : (content : Content) (t : ℤ) (a b : Option Shown) → Answers content t a → Answers content t b → a ≡ b
one_answer content t None None is other = refl
one_answer content t None (Some b) is other = absurd (not_open content t b is other)
one_answer content t (Some a) None is other = absurd (not_open content t a other is)
one_answer content t (Some a) (Some b) is other = ap (λ (s : Shown). Some s) (one_given content t a b is other)
