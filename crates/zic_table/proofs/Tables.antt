-- The table of a zone stands for it, and passes the checks of a reader.
use Rattle.std.proofs.Common.{◌≡◌, ℕ, ◌≤◌, ◌<◌, Bool, true, false, cond, not, ◌&&◌, ◌⊎◌, inl, inr, ⊎_elim, List, [], ◌∷◌, ◌++◌, length, map, get_or, Option, Some, None, All, refl, sym, ap, subst, ◌∙◌, arith, ℤ, ◌<ℤ◌}
use Rattle.std.specs.Prelude.{Contains, AllPairs, IsSomeAnd, slice_get, FitsSigned}
use Rattle.std.specs.Int.{w64}
use Rattle.std.specs.List.{filter}
use Rattle.std.proofs.lemmas.Bool.{le-leb, lt-leb}
use Rattle.std.proofs.lemmas.Int.{ints}
use Rattle.std.proofs.lemmas.List.{length-append, length-map, get_or-map, get_or_at, get_or_append_left, map-append, same_from_push}
use Rattle.std.proofs.lemmas.List.Elements.{All-cons, All-head, All-tail, All-contains, All-filter, All-map, All-weaker, Contains-get_or, Contains-push, Contains-push_cases}
use Rattle.zic_base.specs.Check.{first_failed}
use Rattle.zic_base.specs.State.{Shown}
use Rattle.zic_base.specs.declared.fault.Kind.{Kind}
use Rattle.zic_base.specs.declared.fault.Kind.TheVariants.{TooManyChanges, TooManyTypes, TooManyChars}
use Rattle.zic_posix.specs.Footer.{TzString, version_by, version_of, is_of_day}
use Rattle.zic_posix.specs.Grammar.{IsTzString, Spells}
use Rattle.zic_posix.specs.Meaning.{Means}
use Rattle.zic_posix.specs.Printing.{printed}
use Rattle.zic_posix.specs.declared.footer.Dst.{Dst}
use Rattle.zic_posix.proofs.Meanings.{means_some}
use Rattle.zic_posix.proofs.StringLemmas.{limits_of}
use Rattle.zic_base.proofs.Elements.{contains_got}
use Rattle.zic_states.specs.Change as of_zone
use Rattle.zic_states.specs.Zone.{Zone, Shows}
use Rattle.zic_states.proofs.Changes.{has_beginning, one_list_of_changes}
use Rattle.zic_states.proofs.States.{one_state}
use Rattle.zic_lines.specs.Limits.{IsWithinLimits}
use Rattle.zic_rules.specs.Timeline.{IsWholeZone}
use Rattle.zic_rules.proofs.Limits.{shows_within_limits}
use Rattle.zic_footer.specs.Making.{IsMade, GoesOn}
use Rattle.zic_tzif.specs.Content.{Content, IsFooter, IsLocalType, IsWritable, type_state}
use Rattle.zic_table.specs.ContentOf.{firsts, before, same_state, states_of, names_of, ended, local_type, transition, content_of, limits, IsContentOf, HasFewChanges}
use Rattle.zic_table.specs.code.Faults.{IsFirstFault}
use Rattle.zic_table.specs.code.LocalTypes.{AreLocalTypes, HasManyCharacters}
use Rattle.zic_table.specs.code.Transitions.{AreTransitions, HasManyTypes}
use Rattle.zic_tzif.specs.declared.content.Change.{Change}
use Rattle.zic_tzif.specs.declared.content.LocalType.{LocalType}
use Rattle.zic_tzif.specs.declared.content.TheConstants.{MAX_TRANSITIONS, MAX_TYPES, MAX_CHARACTERS}
use Rattle.zic_table.proofs.Designations.{designation_is, designated}
use Rattle.zic_table.proofs.Firsts.{at_place, place_within}
use Rattle.zic_base.proofs.Lists.{get_mapped}
use Rattle.zic_table.proofs.NumberedChanges.{state_of, known_state}
use Rattle.zic_table.proofs.States.{state_decides}
use Rattle.zic_table.proofs.Texts.{made_length}

-- ---- lists

all_firsts : {A : Type 0} (same : A → A → Bool) (P : A → Type 0) (xs : List A) → All P xs → All P (firsts same xs)
all_firsts same P [] all = all
all_firsts same P (x ∷ xs) all =
    All-cons P x (filter (λ y. not (same x y)) (firsts same xs)) (All-head P x xs all)
    (All-filter (λ y. not (same x y)) P (firsts same xs) (all_firsts same P xs (All-tail P x xs all)))

-- a list is empty or has a last member
last_or_none : {A : Type 0} (xs : List A) → (xs ≡ []) ⊎ ((front : List A) × (last : A) × (xs ≡ front ++ last ∷ []))
last_or_none [] = inl refl
last_or_none {A} (x ∷ xs) = elim (last_or_none xs) [
  | inl none ↦ inr ([], x, ap (λ (l : List A). x ∷ l) none)
  | inr (front, last, is) ↦ inr (x ∷ front, last, ap (λ (l : List A). x ∷ l) is)
]

-- ---- versions

chosen_version : (b : Bool) (v : ℕ) → v ≡ cond b 2 3 → (v ≡ 2) ⊎ (v ≡ 3)
chosen_version true v e = inl e
chosen_version false v e = inr e

known_version : (dst : Option Dst) (v : ℕ) → v ≡ version_by dst → (v ≡ 2) ⊎ (v ≡ 3)
known_version None v e = inl e
known_version (Some dst) v e = chosen_version (is_of_day dst.start && is_of_day dst.stop) v e

-- ---- what a zone shows

module _ (zone : Zone) (whole : IsWholeZone zone) (first : Shown) (changes : List of_zone.Change) (are : of_zone.AreChanges zone changes) (is_first : of_zone.IsFirstState zone first) where
  abbrev states : List Shown
  states = states_of first changes

  abbrev names : List (List ℕ)
  names = names_of states

  abbrev types : List LocalType
  types = map (local_type names) states

  abbrev transitions : List Change
  transitions = map (transition states) changes

  first_within : IsWithinLimits first
  first_within =
      let (end, is_end) = whole.has_end in
      let (other, t, is_other, early, below) = has_beginning zone end changes is_end are in
      shows_within_limits zone whole.source whole.sound t first (is_first other t is_other early below)

  changes_within : All (λ c. IsWithinLimits c.state) changes
  changes_within = All-weaker (λ c. of_zone.IsChange zone c.instant × Shows zone c.instant c.state) (λ c. IsWithinLimits c.state)
      (λ c is. shows_within_limits zone whole.source whole.sound c.instant c.state is.1) changes are.each

  states_within : All IsWithinLimits states
  states_within = all_firsts same_state IsWithinLimits (first ∷ map state_of changes)
      (All-cons IsWithinLimits first (map state_of changes) first_within (All-map IsWithinLimits state_of changes changes_within))

  -- ---- types

  is_local_type : (s : Shown) → Contains states s → IsLocalType (ended names) (local_type names s)
  is_local_type s has =
      let within = All-contains IsWithinLimits states s states_within has in
      record { offset = omega (arith, within.offset); designation = designated states s has within.name }

  -- a type's state is the state
  shown_by_type : (s : Shown) → Contains states s → type_state (ended names) (local_type names s) ≡ s
  shown_by_type s has =
      let within = All-contains IsWithinLimits states s states_within has in
      let name = designation_is states s has within.name in
      λ k. record { offset = s.offset; daylight = s.daylight; name = name k }

  are_local_types : All (IsLocalType (ended names)) types
  are_local_types = All-map (IsLocalType (ended names)) (local_type names) states (λ k d lt. is_local_type (get_or states k d) (Contains-get_or states k d lt))

  -- ---- transitions

  has_type : (c : of_zone.Change) → Contains changes c → length (before same_state states c.state) < length types
  has_type c has = omega (arith, place_within same_state state_decides states c.state (known_state first changes c has), length-map states (local_type names))

  have_types : All (λ (c : Change). c.number < length types) transitions
  have_types = All-map (λ (c : Change). c.number < length types) (transition states) changes (λ k d lt. has_type (get_or changes k d) (Contains-get_or changes k d lt))

  rising : AllPairs (λ (a b : Change). a.instant <ℤ b.instant) transitions
  rising i j d lt within =
      let e : of_zone.Change = record { instant = d.instant; state = first } in
      let later : j < length changes = omega (arith, length-map changes (transition states)) in
      let a = ap (λ (c : Change). c.instant) (get_or-map (transition states) changes i e d (omega arith)) in
      let b = ap (λ (c : Change). c.instant) (get_or-map (transition states) changes j e d later) in
      let rises = are.rising i j e lt later in
      omega (arith, ints, a, b, rises)

  -- ---- the last transition

  module _ (f : TzString) (goes_on : GoesOn zone f) (is_string : IsTzString f) where
    -- at the last change the footer means the state that begins
    means_last : (front : List of_zone.Change) (last : of_zone.Change) → changes ≡ front ++ last ∷ [] → Means f last.instant last.state
    means_last front last is =
        let all = subst (of_zone.AreChanges zone) is are in
        let after : of_zone.IsAfterChanges zone last.instant = λ u change.
        let (k, c, within, at, instant) = all.all u change in
        ⊎_elim
        (λ (earlier : Contains front c).
        let (j, lt, its) = earlier in
        let rises = all.rising j (length front) c lt (omega (arith, length-append front (last ∷ []))) in
        let a = ap (λ (x : of_zone.Change). x.instant) (get_or_append_left front (last ∷ []) c j lt ∙ its) in
        let b = ap (λ (x : of_zone.Change). x.instant) (get_or_at front last [] c (length front) refl) in
        omega (arith, ints, instant, a, b, rises))
        (λ (same : last ≡ c). let a = ap (λ (x : of_zone.Change). x.instant) same in omega (arith, ints, instant, a))
        (Contains-push_cases front last c (k, within, at)) in
        let (state, means) = means_some f is_string last.instant in
        let shows = goes_on last.instant state after means in
        let its = All-contains (λ c. of_zone.IsChange zone c.instant × Shows zone c.instant c.state) (front ++ last ∷ []) last all.each (Contains-push front last) in
        subst (Means f last.instant) (one_state zone whole.orderly last.instant state last.state shows its.1) means

    agrees : (earlier : List Change) (c : Change) → transitions ≡ earlier ++ c ∷ [] → (state : Shown)
        → IsSomeAnd (slice_get types c.number) (λ t. state ≡ type_state (ended names) t) → Means f c.instant state
    agrees earlier c is state by = elim (last_or_none changes) [
      | inl none ↦
          let count = ap (λ (l : List Change). length l) is in
          let no_change = ap (λ (l : List of_zone.Change). length l) none in
          absurd (omega (arith, count, no_change, length-map changes (transition states), length-append earlier (c ∷ [])))
      | inr (front, last, ends) ↦
          let joined = sym (map-append (transition states) front (last ∷ [])) ∙ ap (map (transition states)) (sym ends) ∙ is in
          let same = (same_from_push (map (transition states) front) earlier (transition states last) c joined).1 in
          let has = subst (λ (l : List of_zone.Change). Contains l last) (sym ends) (Contains-push front last) in
          let known = known_state first changes last has in
          let at = at_place same_state state_decides states last.state known in
          let its_type = get_mapped (local_type names) states (length (before same_state states last.state)) last.state at in
          let member : Contains states last.state = contains_got states (length (before same_state states last.state)) last.state at in
          let typed = subst (λ (n : ℕ). IsSomeAnd (slice_get types n) (λ t. state ≡ type_state (ended names) t)) (sym (ap (λ (x : Change). x.number) same)) by in
          let shown_is = subst (λ (o : Option LocalType). IsSomeAnd o (λ t. state ≡ type_state (ended names) t)) its_type typed in
          let state_is : state ≡ last.state = shown_is ∙ shown_by_type last.state member in
          subst (λ (t : ℤ). Means f t state) (ap (λ (x : Change). x.instant) same)
          (subst (Means f last.instant) (sym state_is) (means_last front last ends))
    ]

-- ---- the table

module _ (zone : Zone) (whole : IsWholeZone zone) where
  -- any list of the changes is as long
  pub same_count : (some all : List of_zone.Change) → of_zone.AreChanges zone some → of_zone.AreChanges zone all → length some ≡ length all
  same_count some all are_some are_all = ap (λ (l : List of_zone.Change). length l) (one_list_of_changes zone whole.orderly some all are_some are_all)

  passes_first : (first : Shown) (changes : List of_zone.Change) → MAX_TRANSITIONS < length changes → first_failed (limits first changes) ≡ Some TooManyChanges
  passes_first first changes many = rw (lt-leb (length changes) MAX_TRANSITIONS many) refl

  passes_second : (first : Shown) (changes : List of_zone.Change) → length changes ≤ MAX_TRANSITIONS → MAX_TYPES < length (states_of first changes)
      → first_failed (limits first changes) ≡ Some TooManyTypes
  passes_second first changes few many = rw (le-leb (length changes) MAX_TRANSITIONS few, lt-leb (length (states_of first changes)) MAX_TYPES many) refl

  passes_third : (first : Shown) (changes : List of_zone.Change) → length changes ≤ MAX_TRANSITIONS → length (states_of first changes) ≤ MAX_TYPES
      → MAX_CHARACTERS < length (ended (names_of (states_of first changes))) → first_failed (limits first changes) ≡ Some TooManyChars
  passes_third first changes few fit many =
      rw (le-leb (length changes) MAX_TRANSITIONS few, le-leb (length (states_of first changes)) MAX_TYPES fit, lt-leb (length (ended (names_of (states_of first changes)))) MAX_CHARACTERS many) refl

  passes_none : (first : Shown) (changes : List of_zone.Change) → length changes ≤ MAX_TRANSITIONS → length (states_of first changes) ≤ MAX_TYPES
      → length (ended (names_of (states_of first changes))) ≤ MAX_CHARACTERS → first_failed (limits first changes) ≡ None
  passes_none first changes few fit short =
      rw (le-leb (length changes) MAX_TRANSITIONS few, le-leb (length (states_of first changes)) MAX_TYPES fit, le-leb (length (ended (names_of (states_of first changes)))) MAX_CHARACTERS short) refl

  pub too_many_changes : (first : Shown) (changes : List of_zone.Change) → of_zone.IsFirstState zone first → of_zone.AreChanges zone changes
      → MAX_TRANSITIONS < length changes → IsFirstFault zone TooManyChanges
  too_many_changes first changes is_first are many = record {
    first = first;
    changes = changes;
    are_changes = are;
    is_first = is_first;
    first_exceeded = passes_first first changes many;
  }

  module _ (all : List of_zone.Change) (are_all : of_zone.AreChanges zone all) (few : length all ≤ MAX_TRANSITIONS) where
    is_few : (changes : List of_zone.Change) → of_zone.AreChanges zone changes → length changes ≤ MAX_TRANSITIONS
    is_few changes are = omega (arith, same_count changes all are are_all)

    pub has_few : HasFewChanges zone
    has_few changes are = is_few changes are

    pub too_many_types : (fault : Kind) → fault ≡ TooManyTypes → HasManyTypes zone → IsFirstFault zone fault
    too_many_types fault is many = subst (IsFirstFault zone) (sym is) (record {
      first = many.first;
      changes = many.changes;
      are_changes = many.are_changes;
      is_first = many.is_first;
      first_exceeded = passes_second many.first many.changes (is_few many.changes many.are_changes) many.many;
    })

    module _ (states : List Shown) (transitions : List Change) (numbered : AreTransitions zone states transitions) (fit : length states ≤ MAX_TYPES) where
      abbrev first : Shown
      first = numbered.first

      abbrev changes : List of_zone.Change
      changes = numbered.changes

      types_fit : length (states_of first changes) ≤ MAX_TYPES
      types_fit = omega (arith, ap (λ (l : List Shown). length l) numbered.are_states)

      pub too_many_characters : (fault : Kind) → fault ≡ TooManyChars → HasManyCharacters states → IsFirstFault zone fault
      too_many_characters fault is many = subst (IsFirstFault zone) (sym is) (record {
        first = first;
        changes = changes;
        are_changes = numbered.are_changes;
        is_first = numbered.is_first;
        first_exceeded = passes_third first changes (is_few changes numbered.are_changes) types_fit (subst HasManyCharacters numbered.are_states many);
      })

      module _ (f : TzString) (made : IsMade zone f) (goes_on : GoesOn zone f) (types : List LocalType) (octets : List ℕ) (designated : AreLocalTypes states types octets)
          (version : ℕ) (text : List ℕ) (is_version : version ≡ version_of f) (is_text : text ≡ printed f) (spells : Spells (version_of f) text f) where
        abbrev content : Content
        content = record { version = version; changes = transitions; types = types; names = octets; text = text }

        its : AreLocalTypes (states_of first changes) types octets
        its = subst (λ (l : List Shown). AreLocalTypes l types octets) numbered.are_states designated

        are_transitions : transitions ≡ map (transition (states_of first changes)) changes
        are_transitions = numbered.are_transitions ∙ ap (λ (l : List Shown). map (transition l) changes) numbered.are_states

        same_content : content ≡ content_of first changes f
        same_content =
            let are_types = its.are_types in
            let are_names = its.are_names in
            λ k. record { version = is_version k; changes = are_transitions k; types = are_types k; names = are_names k; text = is_text k }

        names_fit : length (ended (names_of (states_of first changes))) ≤ MAX_CHARACTERS
        names_fit = let fit = its.fit in omega (arith, ap (λ (l : List ℕ). length l) its.are_names)

        pub is_content : IsContentOf zone f content
        is_content = record {
          first = first;
          changes = changes;
          are_changes = numbered.are_changes;
          is_first = numbered.is_first;
          fits = passes_none first changes (is_few changes numbered.are_changes) types_fit names_fit;
          is = same_content;
        }

        is_footer_of : IsFooter (content_of first changes f) f
        is_footer_of = record {
          spells = subst (λ (l : List ℕ). Spells (version_of f) l f) is_text spells;
          agrees = λ c state last by. agrees zone whole first changes numbered.are_changes numbered.is_first f goes_on (limits_of (version_of f) text f spells) last.0 c last.1 state by;
        }

        pub is_footer : IsFooter content f
        is_footer = subst (λ (x : Content). IsFooter x f) (sym same_content) is_footer_of

        is_writable_of : IsWritable (content_of first changes f)
        is_writable_of = record {
          version = known_version f.dst (version_of f) refl;
          rising = rising zone whole first changes numbered.are_changes numbered.is_first;
          instants = subst (All (λ (c : Change). FitsSigned w64 c.instant)) are_transitions numbered.fit;
          have_types = have_types zone whole first changes numbered.are_changes numbered.is_first;
          transitions_fit = omega (arith, is_few changes numbered.are_changes, length-map changes (transition (states_of first changes)));
          some_type = omega arith;
          types_fit = omega (arith, types_fit, length-map (states_of first changes) (local_type (names_of (states_of first changes))));
          types = are_local_types zone whole first changes numbered.are_changes numbered.is_first;
          names_fit = names_fit;
          text_fits = omega (arith, made_length zone whole f made);
          footer = (f, is_footer_of);
        }

        pub is_writable : IsWritable content
        is_writable = subst IsWritable (sym same_content) is_writable_of
