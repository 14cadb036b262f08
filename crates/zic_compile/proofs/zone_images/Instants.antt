-- What the content of a zone's file gives at every instant is what the zone shows.
use Rattle.std.proofs.Common.{◌≡◌, ℕ, suc, ◌<◌, ◌≤◌, ◌⊎◌, inl, inr, ⊎_elim, ◌↔◌, true, List, [], ◌∷◌, ◌++◌, length, map, Option, Some, None, refl, ap, sym, subst, ◌∙◌, length-append, arith}
use Rattle.std.specs.Prelude.{ℤ, ◌<ℤ◌, ◌≤ℤ◌, AllPairs, Contains, slice_get}
use Rattle.std.proofs.lemmas.Int.{ints, by_lt_z}
use Rattle.std.proofs.lemmas.List.Elements.{All-contains, Contains-append_right, Contains-append_cases}
use Rattle.std.proofs.lemmas.Option.{same_Some}
use Rattle.zic_base.specs.State.{Shown}
use Rattle.zic_base.specs.declared.fault.Kind.TheVariants as kind
use Rattle.zic_source.specs.Sound.{IsSoundSource}
use Rattle.zic_base.proofs.Elements.{first_contained, cons_cases, contains_got, into_map}
use Rattle.zic_lines.specs.Limits.{is_abbreviation}
use Rattle.zic_states.specs.Change as of_zone
use Rattle.zic_states.specs.Change.{IsChange, AreChanges, IsBeforeChanges, IsAfterChanges, IsFirstState}
use Rattle.zic_states.specs.End.{IsEnd}
use Rattle.zic_states.specs.Fault.{IsSound}
use Rattle.zic_states.specs.Laws.{IsOrderly}
use Rattle.zic_states.specs.Zone.{Zone, Shows}
use Rattle.zic_states.proofs.Lines.{orderly, some_and_has}
use Rattle.zic_states.proofs.SomeState.{some_state}
use Rattle.zic_states.proofs.States.{one_state}
use Rattle.zic_states.proofs.TailChanges.{stays_since_change}
use Rattle.zic_rules.proofs.Limits.{shows_within_limits}
use Rattle.zic_posix.specs.Footer.{TzString}
use Rattle.zic_posix.specs.Grammar.{SpellsName, Spells}
use Rattle.zic_posix.specs.Meaning.{Means}
use Rattle.zic_posix.proofs.StringLemmas.{spells_one}
use Rattle.zic_footer.specs.Making.{GoesOn}
use Rattle.zic_tzif.specs.declared.content.Change.{Change}
use Rattle.zic_tzif.specs.Content.{Content, IsFooter, IsStateOfType, IsWritable, type_state}
use Rattle.zic_table.specs.ContentOf.{before, states_of, names_of, local_type, transition, content_of, IsContentOf}
use Rattle.zic_tzif.specs.Answer.{IsLastChange, IsBeforeAll, IsBeforeLast, IsTypeAt, Gives, Answers}
use Rattle.zic_tzif.proofs.AnswerLemmas.{answer_at}
use Rattle.zic_compile.proofs.zone_images.Types.{is_state, type_at_number, state_of_type}

-- ---- lists

from_map : {A B : Type 0} (f : A → B) (xs : List A) (y : B) → Contains (map f xs) y → (x : A) × Contains xs x × (f x ≡ y)
from_map f [] y has = absurd (omega (arith, has.1))
from_map f (x ∷ xs) y has = ⊎_elim
    (λ here. (x, first_contained x xs, here))
    (λ later. let rest = from_map f xs y later in (rest.0, Contains-append_right (x ∷ []) xs rest.0 rest.1, rest.2))
    (cons_cases (f x) (map f xs) y has)

-- a member stands before all that follow it
before_later : {A : Type 0} (R : A → A → Type 0) (earlier later : List A) (x y : A) → AllPairs R (earlier ++ y ∷ later) → Contains earlier x → R x y
before_later R [] later x y pairs has = absurd (omega (arith, has.1))
before_later R (z ∷ earlier) later x y pairs has =
    let rest = earlier ++ y ∷ later in
    ⊎_elim
    (λ same.
    let there = Contains-append_right earlier (y ∷ later) y (first_contained y later) in
    subst (λ w. R w y) same (All-contains (R z) rest y (λ k d within. pairs 0 (suc k) d (omega arith) (omega arith)) there))
    (λ further. before_later R earlier later x y (λ i j d lt within. pairs (suc i) (suc j) d (omega arith) (omega arith)) further)
    (cons_cases z earlier x has)

-- ---- texts of footers

name_length : (text name : List ℕ) → SpellsName text name → 3 ≤ length text
name_length text name s =
    elim s.form [
      | inl plain ↦ rw plain.0 s.long
      | inr quoted ↦ omega (arith, s.long, ap length quoted.0, length-append name (62 ∷ []))
    ]

-- no string is spelled by nothing
spelled_by_nothing : (version : ℕ) (text : List ℕ) (f : TzString) → Spells version text f → text ≡ [] → ⊥
spelled_by_nothing version text f s e =
    omega (arith, name_length s.name f.std s.spells_name, ap length s.parts, ap length e, length-append s.name (s.offset ++ s.rest))

-- ---- a zone and the content of its file

module _ (zone : Zone) (source : IsSoundSource zone.source) (is_zone : zone.number < length zone.source.zones) (sound : IsSound zone)
    (first : Shown) (changes : List of_zone.Change) (are : AreChanges zone changes) (is_first : IsFirstState zone first)
    (f : TzString) (goes_on : GoesOn zone f) (footer : IsFooter (content_of first changes f) f) (writable : IsWritable (content_of first changes f)) where
  in_order : IsOrderly zone
  in_order = orderly zone source sound

  abbrev content : Content
  content = content_of first changes f

  abbrev states : List Shown
  states = states_of first changes

  named : (t : ℤ) (state : Shown) → Shows zone t state → is_abbreviation state.name ≡ true
  named t state shows = (shows_within_limits zone source sound t state shows).name

  -- ---- changes and transitions

  is_change : (d : of_zone.Change) → Contains changes d → IsChange zone d.instant × Shows zone d.instant d.state
  is_change d has = All-contains (λ c. IsChange zone c.instant × Shows zone c.instant c.state) changes d are.each has

  -- a transition is that of a change
  of_change : (c : Change) → Contains content.changes c → (d : of_zone.Change) × Contains changes d × (transition states d ≡ c)
  of_change c has = from_map (transition states) changes c has

  -- and a change has one
  has_transition : (u : ℤ) → IsChange zone u → (c : Change) × Contains content.changes c × (c.instant ≡ u)
  has_transition u is =
      let (k, d, within, at, instant) = are.all u is in
      (transition states d, into_map (transition states) changes d (k, within, at), instant)

  -- what comes before a transition comes before the explicit end
  before_end : (t : ℤ) → IsBeforeLast content t → (end : ℤ) × IsEnd zone end × (t <ℤ end)
  before_end t (k, c, within, at, later) =
      let (d, has, same) = of_change c (k, within, at) in
      let is = (is_change d has).0 in
      let before = is.before_end in
      let instant : d.instant ≡ c.instant = ap (λ (x : Change). x.instant) same in
      (is.end, is.is_end, omega (arith, ints))

  before_all : (t : ℤ) → IsBeforeAll content t → IsBeforeChanges zone t
  before_all t all u is =
      let (c, has, instant) = has_transition u is in
      subst (λ (v : ℤ). t <ℤ v) instant (All-contains (λ (x : Change). t <ℤ x.instant) content.changes c all has)

  after_all : (t : ℤ) → (IsBeforeLast content t → ⊥) → IsAfterChanges zone t
  after_all t none u is =
      let (c, has, instant) = has_transition u is in
      by_lt_z t u
      (λ lt. absurd (none (has.0, c, has.1, has.2, subst (λ (v : ℤ). t <ℤ v) (sym instant) lt)))
      (λ not_after. not_after)

  -- ---- from a change to the next

  shown_since : (t end : ℤ) → IsEnd zone end → t <ℤ end → (d : of_zone.Change) → Contains changes d → d.instant ≤ℤ t
      → ((u : ℤ) → IsChange zone u → d.instant <ℤ u → t <ℤ u) → Shows zone t d.state
  shown_since t end is_end before d has not_after none =
      let letters = sound kind.NoLetter in
      let (state, shows) = some_state zone in_order.sets is_zone letters t in
      let showed = stays_since_change zone in_order is_zone letters end d.instant t is_end not_after before none state shows in
      subst (Shows zone t) (one_state zone in_order d.instant state d.state showed (is_change d has).1) shows

  -- a transition isn't after another, or stands after it
  not_after_or_later : (earlier later : List Change) (c : Change) → content.changes ≡ earlier ++ c ∷ later → (e : Change) → Contains content.changes e
      → (e.instant ≤ℤ c.instant) ⊎ Contains later e
  not_after_or_later earlier later c split e has =
      elim (Contains-append_cases earlier (c ∷ later) e (subst (λ (cs : List Change). Contains cs e) split has)) [
        | inl before ↦
            let pairs = subst (AllPairs (λ (a b : Change). a.instant <ℤ b.instant)) split writable.rising in
            let less : e.instant <ℤ c.instant = before_later (λ (a b : Change). a.instant <ℤ b.instant) earlier later e c pairs before in
            inl (omega (arith, ints))
        | inr rest ↦ elim (cons_cases c later e rest) [
          | inl same ↦ let at : c.instant ≡ e.instant = ap (λ (x : Change). x.instant) same in inl (omega (arith, ints))
          | inr after ↦ inr after
        ]
      ]

  -- no change lies between the last transition not after t and t
  none_between : (t : ℤ) (c : Change) → IsLastChange content t c → (u : ℤ) → IsChange zone u → c.instant <ℤ u → t <ℤ u
  none_between t c last u is after =
      let (e, has, instant) = has_transition u is in
      elim (not_after_or_later last.earlier last.later c last.is e has) [
        | inl le ↦ absurd (omega (arith, ints))
        | inr later ↦ subst (λ (v : ℤ). t <ℤ v) instant (All-contains (λ (x : Change). t <ℤ x.instant) last.later e last.last later)
      ]

  -- the state of the type of a change is that change's
  its_state : (d : of_zone.Change) → Contains changes d → (state : Shown) → IsStateOfType content (transition states d).number state → d.state ≡ state
  its_state d has state is =
      let (its_type, at, same) = some_and_has (slice_get content.types (transition states d).number) (λ x. state ≡ type_state content.names x) is in
      let local = same_Some its_type (local_type (names_of states) d.state) (sym at ∙ type_at_number first changes d has) in
      sym (same ∙ ap (type_state content.names) local ∙ state_of_type first changes d.state (is_state first changes d has) (named d.instant d.state (is_change d has).1))

  shown_by_type : (t : ℤ) → IsBeforeLast content t → (number : ℕ) (state : Shown) → IsTypeAt content t number → IsStateOfType content number state → Shows zone t state
  shown_by_type t before number state (inl (all, zero_is)) is =
      let (end, is_end, early) = before_end t before in
      let shows = is_first end t is_end early (before_all t all) in
      let of_first = state_of_type first changes first (contains_got states 0 first refl) (named t first shows) in
      let at_0 = subst (λ n. IsStateOfType content n state) zero_is is in
      subst (Shows zone t) (sym (at_0 ∙ of_first)) shows
  shown_by_type t before number state (inr (c, last, number_is)) is =
      let (end, is_end, early) = before_end t before in
      let there = subst (λ (cs : List Change). Contains cs c) (sym last.is) (Contains-append_right last.earlier (c ∷ last.later) c (first_contained c last.later)) in
      let (d, has, same) = of_change c there in
      let instant : d.instant ≡ c.instant = ap (λ (x : Change). x.instant) same in
      let not_after = last.not_after in
      let shows = shown_since t end is_end early d has (omega (arith, ints)) (λ u change after. none_between t c last u change (omega (arith, ints))) in
      let of_its_type = subst (λ n. IsStateOfType content n state) (number_is ∙ ap (λ (x : Change). x.number) (sym same)) is in
      subst (Shows zone t) (its_state d has state of_its_type) shows

  -- ---- at every instant

  module _ (t : ℤ) where
    given_shows : (state : Shown) → Gives content t state → Shows zone t state
    given_shows state (inl (inl before, (number, at, is))) = shown_by_type t before number state at is
    given_shows state (inl (inr one, found)) = absurd (spelled_by_nothing content.version content.text f footer.spells one.1)
    given_shows state (inr (none, (g, spells, means))) =
        goes_on t state (after_all t none)
        (subst (λ (h : TzString). Means h t state) (spells_one content.version content.text g f spells footer.spells) means)

    shows_given : (answer : Option Shown) → Answers content t answer → (state : Shown) → Shows zone t state → Gives content t state
    shows_given None left state shows = absurd (spelled_by_nothing content.version content.text f footer.spells left.no_footer)
    shows_given (Some given) gives state shows =
        subst (Gives content t) (one_state zone in_order t given state (given_shows given gives) shows) gives

    pub one_answer : (state : Shown) → Gives content t state ↔ Shows zone t state
    one_answer state =
        let (answer, is) = answer_at content t writable.rising writable.have_types writable.some_type (inr (f, footer)) in
        (given_shows state, shows_given answer is state)

-- the content of a zone's file, with a footer that goes on, gives what the zone shows
pub gives_shows : (zone : Zone) → IsSoundSource zone.source → zone.number < length zone.source.zones → IsSound zone
    → (f : TzString) → GoesOn zone f → (made : Content) → IsContentOf zone f made → IsFooter made f → IsWritable made
    → (t : ℤ) (state : Shown) → Gives made t state ↔ Shows zone t state
gives_shows zone source is_zone sound f goes_on made of footer writable t state =
    subst (λ (c : Content). Gives c t state ↔ Shows zone t state) (sym of.is)
    (one_answer zone source is_zone sound of.first of.changes of.are_changes of.is_first f goes_on
    (subst (λ (c : Content). IsFooter c f) of.is footer) (subst IsWritable of.is writable) t state)
