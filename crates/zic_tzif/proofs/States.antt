-- The states of a file by number.
use Rattle.std.proofs.Common.{◌≡◌, ℕ, ◌+◌, ◌-◌, ◌<◌, ◌≤◌, ◌⊎◌, inl, inr, true, false, List, [], length, ℤ, Option, Some, None, refl, sym, ap, subst, ◌∙◌, arith}
use Rattle.std.specs.Prelude.{IsSomeAnd, slice_get, is_some, option_map}
use Rattle.std.proofs.lemmas.Bool.{cases_lt}
use Rattle.std.proofs.lemmas.Option.{same_Some, slice_get_within}
use Rattle.zic_base.specs.State.{Shown, shown}
use Rattle.zic_base.specs.declared.state.State.{State}
use Rattle.zic_posix.specs.declared.footer.Dst.{Dst}
use Rattle.zic_posix.specs.Footer.{TzString}
use Rattle.zic_posix.specs.Grammar.{Spells}
use Rattle.zic_posix.specs.Meaning.{standard_state, daylight_state, MeansBy, Means}
use Rattle.zic_posix.proofs.StringLemmas.{spells_one}
use Rattle.zic_tzif.specs.declared.content.LocalType.{LocalType}
use Rattle.zic_tzif.specs.Content.{Content, IsStateOfType, type_state}
use Rattle.zic_tzif.specs.Answer.{Gives}
use Rattle.zic_tzif.specs.States.{IsStateOfString, IsStateOfNumber, HasStateOfNumber, AreStates}
use Rattle.zic_tzif.proofs.AnswerLemmas.{spells_none, one_state_of_type, state_of_type}
use mir.Val.{bool_byte}

-- ---- types

within_by : (names : List ℕ) (types : List LocalType) (number : ℕ) (o : Option LocalType) (state : Shown) → slice_get types number ≡ o → IsSomeAnd o (λ t. state ≡ type_state names t)
    → number < length types
within_by names types number None state e is = absurd is
within_by names types number (Some t) state e is = slice_get_within types number t e

-- a number with local time of a type is that of a type
pub type_within : (content : Content) (number : ℕ) (state : Shown) → IsStateOfType content number state → number < length content.types
type_within content number state is = within_by content.names content.types number (slice_get content.types number) state refl is

-- each type has a state
pub type_has_state : (content : Content) (number : ℕ) → number < length content.types → HasStateOfNumber content number
type_has_state content number within = let found = state_of_type content number within in (found.0, inl found.1)

-- ---- the footer

-- how many states a string has
abbrev pub string_states : Option Dst → ℕ
string_states None = 1
string_states (Some dst) = 2

place_by : (f : TzString) (o : Option Dst) (place : ℕ) (state : Shown)
    → ((place ≡ 0) × (state ≡ standard_state f)) ⊎ ((place ≡ 1) × IsSomeAnd o (λ dst. state ≡ daylight_state dst)) → place < string_states o
place_by f None place state (inl is) = let e = is.0 in omega (arith, e)
place_by f None place state (inr is) = absurd is.1
place_by f (Some dst) place state (inl is) = let e = is.0 in omega (arith, e)
place_by f (Some dst) place state (inr is) = let e = is.0 in omega (arith, e)

abbrev Placed : TzString → Option Dst → ℕ → Type 0
Placed f o place = (state : Shown) × (((place ≡ 0) × (state ≡ standard_state f)) ⊎ ((place ≡ 1) × IsSomeAnd o (λ dst. state ≡ daylight_state dst)))

placed_by : (f : TzString) (o : Option Dst) (place : ℕ) → place < string_states o → Placed f o place
placed_by f None place below = (standard_state f, inl (omega (arith, below), refl))
placed_by f (Some dst) place below =
    elim (cases_lt place 1) [
      | inl less ↦ (standard_state f, inl (omega (arith, less), refl))
      | inr not ↦ (daylight_state dst, inr (omega (arith, below, not), refl))
    ]

-- where there is no footer, the states are those of types
pub states_without_footer : (content : Content) (count : ℕ) → content.text ≡ [] → count ≡ length content.types → AreStates content count
states_without_footer content count empty is =
    λ number. (
      λ below. type_has_state content number (omega (arith, below, is)),
      λ has. elim has.1 [
        | inl type ↦ let within = type_within content number has.0 type in omega (arith, within, is)
        | inr footer ↦ absurd (spells_none content.version content.text footer.0 empty footer.1)
      ],
    )

-- else those of the footer follow
pub states_with_footer : (content : Content) (f : TzString) (count : ℕ) → Spells content.version content.text f → count ≡ length content.types + string_states f.dst → AreStates content count
states_with_footer content f count spells is =
    λ number. (
      λ below. elim (cases_lt number (length content.types)) [
        | inl within ↦ type_has_state content number within
        | inr not ↦
            let place = number - length content.types in
            let found = placed_by f f.dst place (omega (arith, below, is, not)) in
            (found.0, inr (f, spells, (place, omega (arith, not), found.1)))
      ],
      λ has. elim has.1 [
        | inl type ↦ let within = type_within content number has.0 type in omega (arith, within, is)
        | inr footer ↦
            let same = spells_one content.version content.text footer.0 f footer.1 spells in
            let there = subst (λ (g : TzString). IsStateOfString g footer.2.0 has.0) same footer.2.2 in
            let below = place_by f f.dst footer.2.0 has.0 there in
            let at = footer.2.1 in
            omega (arith, below, at, is)
      ],
    )

-- where the footer has so many states
pub states_of_some : (o : Option Dst) → is_some o ≡ true → string_states o ≡ 2
states_of_some None e = absurd cc
states_of_some (Some dst) e = refl

pub states_of_none : (o : Option Dst) → is_some o ≡ false → string_states o ≡ 1
states_of_none None e = refl
states_of_none (Some dst) e = absurd cc

-- a number without a footer is a type's
pub within_types : (content : Content) (number : ℕ) → content.text ≡ [] → HasStateOfNumber content number → number < length content.types
within_types content number empty has = (states_without_footer content (length content.types) empty refl number).1 has

-- ---- what is shown

-- the daylight part that a state is of, where there is one
daylight_of : (found : Option State) (o : Option Dst) (state : State) → found ≡ Some state → option_map shown found ≡ option_map daylight_state o
    → IsSomeAnd o (λ dst. shown state ≡ daylight_state dst)
daylight_of None o state is same = absurd cc
daylight_of (Some other) None state is same = absurd cc
daylight_of (Some other) (Some dst) state is same =
    ap shown (sym (same_Some other state is)) ∙ same_Some (shown other) (daylight_state dst) same

pub has_daylight : (found : Option State) (o : Option Dst) → option_map shown found ≡ option_map daylight_state o → is_some found ≡ is_some o
has_daylight None None same = refl
has_daylight None (Some dst) same = absurd cc
has_daylight (Some state) None same = absurd cc
has_daylight (Some state) (Some dst) same = refl

at_most_two : (o : Option Dst) → string_states o ≤ 2
at_most_two None = omega arith
at_most_two (Some dst) = omega arith

module _ (content : Content) (f : TzString) (number : ℕ) (spells : Spells content.version content.text f) (has : HasStateOfNumber content number)
    (found : Option State) (same : option_map shown found ≡ option_map daylight_state f.dst) where
  below_count : number < length content.types + string_states f.dst
  below_count = (states_with_footer content f (length content.types + string_states f.dst) spells refl number).1 has

  -- the number after those of types is standard time's
  pub standard_numbered : (state : Shown) → length content.types ≤ number → (number ≤ length content.types) ⊎ (found ≡ None) → state ≡ standard_state f
      → IsStateOfNumber content number state
  standard_numbered state from to is =
      let at : number ≡ length content.types + 0 = elim to [
        | inl end ↦ omega (arith, from, end)
        | inr none ↦
            let below = below_count in
            let one = states_of_none f.dst (sym (has_daylight found f.dst same) ∙ ap is_some none) in
            omega (arith, from, below, one)
      ] in
      inr (f, spells, (0, at, inl (refl, is)))

  -- and the one after that daylight saving time's
  pub daylight_numbered : (state : State) → length content.types < number → found ≡ Some state → IsStateOfNumber content number (shown state)
  daylight_numbered state after is =
      let below = below_count in
      let two = at_most_two f.dst in
      inr (f, spells, (1, omega (arith, after, below, two), inr (refl, daylight_of found f.dst state is same)))

-- what a string means is one of its two states
means_place : (f : TzString) (o : Option Dst) (t : ℤ) (state : Shown) → MeansBy f o t state
    → (place : ℕ) × (place ≡ bool_byte state.daylight) × (((place ≡ 0) × (state ≡ standard_state f)) ⊎ ((place ≡ 1) × IsSomeAnd o (λ dst. state ≡ daylight_state dst)))
means_place f None t state is = (0, ap (λ (s : Shown). bool_byte s.daylight) (sym is), inl (refl, is))
means_place f (Some dst) t state (inl day) = (1, ap (λ (s : Shown). bool_byte s.daylight) (sym day.1), inr (refl, day.1))
means_place f (Some dst) t state (inr night) = (0, ap (λ (s : Shown). bool_byte s.daylight) (sym night.1), inl (refl, night.1))

pub footer_numbered : (content : Content) (f : TzString) (t : ℤ) (state : Shown) (number : ℕ) → Spells content.version content.text f → Means f t state
    → ((state.daylight ≡ true) × (number ≡ length content.types + 1)) ⊎ ((state.daylight ≡ false) × (number ≡ length content.types)) → IsStateOfNumber content number state
footer_numbered content f t state number spells means (inl is) =
    let found = means_place f f.dst t state means in
    let place = found.1 ∙ ap bool_byte is.0 in
    let at = is.1 in
    inr (f, spells, (found.0, omega (arith, place, at), found.2))
footer_numbered content f t state number spells means (inr is) =
    let found = means_place f f.dst t state means in
    let place = found.1 ∙ ap bool_byte is.0 in
    let at = is.1 in
    inr (f, spells, (found.0, omega (arith, place, at), found.2))

-- what a content gives at an instant is the state of a number
pub given_numbered : (content : Content) (t : ℤ) (state : Shown) → Gives content t state → (number : ℕ) × IsStateOfNumber content number state
given_numbered content t state (inl given) = (given.1.0, inl given.1.2)
given_numbered content t state (inr given) =
    let f = given.1.0 in
    let found = means_place f f.dst t state given.1.2 in
    (length content.types + found.0, inr (f, given.1.1, (found.0, refl, found.2)))

-- ---- one state each

one_by : (f : TzString) (o : Option Dst) (place other : ℕ) (a b : Shown) → place ≡ other
    → ((place ≡ 0) × (a ≡ standard_state f)) ⊎ ((place ≡ 1) × IsSomeAnd o (λ dst. a ≡ daylight_state dst))
    → ((other ≡ 0) × (b ≡ standard_state f)) ⊎ ((other ≡ 1) × IsSomeAnd o (λ dst. b ≡ daylight_state dst)) → a ≡ b
one_by f o place other a b same (inl p) (inl q) = p.1 ∙ sym q.1
one_by f o place other a b same (inl p) (inr q) = let x = p.0 in let y = q.0 in absurd (omega (arith, same, x, y))
one_by f o place other a b same (inr p) (inl q) = let x = p.0 in let y = q.0 in absurd (omega (arith, same, x, y))
one_by f None place other a b same (inr p) (inr q) = absurd p.1
one_by f (Some dst) place other a b same (inr p) (inr q) = p.1 ∙ sym q.1

-- a number has one state
pub one_state : (content : Content) (number : ℕ) (a b : Shown) → IsStateOfNumber content number a → IsStateOfNumber content number b → a ≡ b
one_state content number a b (inl p) (inl q) = one_state_of_type content number a b p q
one_state content number a b (inl p) (inr q) = let within = type_within content number a p in let at = q.2.1 in absurd (omega (arith, within, at))
one_state content number a b (inr p) (inl q) = let within = type_within content number b q in let at = p.2.1 in absurd (omega (arith, within, at))
one_state content number a b (inr p) (inr q) =
    let same = spells_one content.version content.text p.0 q.0 p.1 q.1 in
    let there = subst (λ (g : TzString). IsStateOfString g p.2.0 a) same p.2.2 in
    let x = p.2.1 in
    let y = q.2.1 in
    one_by q.0 q.0.dst p.2.0 q.2.0 a b (omega (arith, x, y)) there q.2.2
