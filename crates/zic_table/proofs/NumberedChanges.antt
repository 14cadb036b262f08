-- The transitions of a zone, one after another.
use Rattle.std.proofs.Common.{◌≡◌, ℕ, ◌+◌, ◌≤◌, ◌<◌, true, List, [], ◌∷◌, ◌++◌, length, map, take, drop, refl, sym, ap, subst, ◌∙◌, arith}
use Rattle.std.specs.Prelude.{Contains, slice_get, FitsSigned}
use Rattle.std.specs.Int.{w64}
use Rattle.std.specs.List.{list_any}
use Rattle.std.proofs.lemmas.List.{length-append, map-append, take_all, take-append-drop}
use Rattle.std.proofs.lemmas.List.Elements.{Contains-append_right, All-push}
use Rattle.zic_base.specs.State.{Shown}
use Rattle.zic_base.proofs.Elements.{contained_passes, into_map}
use Rattle.zic_states.specs.Change as of_zone
use Rattle.zic_states.specs.Laws.{IsOrderly}
use Rattle.zic_states.specs.Zone.{Zone}
use Rattle.zic_states.proofs.Changes.{one_list_of_changes}
use Rattle.zic_rules.specs.Timeline.{IsChangeAt}
use Rattle.zic_table.specs.ContentOf.{firsts, same_state, states_of, transition}
use Rattle.zic_table.specs.code.Firsts.{with_new, IsNumbered}
use Rattle.zic_table.specs.code.Transitions.{AreTransitionsTo, AreTransitions, HasManyTypes}
use Rattle.zic_tzif.specs.declared.content.Change.{Change}
use Rattle.zic_tzif.specs.declared.content.TheConstants.{MAX_TYPES}
use Rattle.zic_table.proofs.Firsts.{before_append, any_firsts, firsts_push, firsts_grow, with_new_grows}
use Rattle.zic_base.proofs.Lists.{map_same, take_next}
use Rattle.zic_table.proofs.States.{state_decides}

-- what a change begins
abbrev pub state_of : of_zone.Change → Shown
state_of c = c.state

module _ (first : Shown) (done : List of_zone.Change) where
  -- the states with one more change
  pub states_push : (c : of_zone.Change) → states_of first (done ++ c ∷ []) ≡ with_new same_state (states_of first done) c.state
  states_push c =
      ap (λ (l : List Shown). firsts same_state (first ∷ l)) (map-append state_of done (c ∷ []))
      ∙ firsts_push same_state state_decides (first ∷ map state_of done) c.state

  -- a change goes to one of the states
  pub known_state : (c : of_zone.Change) → Contains done c → list_any (λ s. same_state s c.state) (states_of first done) ≡ true
  known_state c has =
      any_firsts same_state state_decides (first ∷ map state_of done) c.state
      ∙ contained_passes (λ s. same_state s c.state) (first ∷ map state_of done) c.state
      (Contains-append_right (first ∷ []) (map state_of done) c.state (into_map state_of done c has))
      ((state_decides c.state c.state).1 refl)

  -- later states don't matter to the transitions before them
  numbers_stay : (more : List Shown) → map (transition (states_of first done ++ more)) done ≡ map (transition (states_of first done)) done
  numbers_stay more = map_same (transition (states_of first done ++ more)) (transition (states_of first done)) done
      (λ c has. ap (λ (l : List Shown). record { instant = c.instant; number = length l }) (before_append same_state (states_of first done) more c.state (known_state c has)))

  module _ (c : of_zone.Change) (states : List Shown) (n : ℕ) (is : IsNumbered (states_of first done) states c.state n) where
    pub states_more : states ≡ states_of first (done ++ c ∷ [])
    states_more = is.with_state ∙ sym (states_push c)

    pub transitions_more : map (transition states) (done ++ c ∷ []) ≡ map (transition (states_of first done)) done ++ record { instant = c.instant; number = n } ∷ []
    transitions_more =
        let (more, grown) = with_new_grows same_state (states_of first done) c.state in
        let earlier = ap (λ (l : List Shown). map (transition l) done) (is.with_state ∙ grown) ∙ numbers_stay more in
        let number = is.is_number in
        map-append (transition states) done (c ∷ [])
        ∙ (λ k. earlier k ++ record { instant = c.instant; number = sym number k } ∷ [])

module _ (zone : Zone) (orderly : IsOrderly zone) where
  module _ (i : ℕ) (states : List Shown) (transitions : List Change) (are : AreTransitionsTo zone i states transitions) where
    -- the next change is that of the list
    next_is : (c : of_zone.Change) → IsChangeAt zone i c → take (i + 1) are.changes ≡ take i are.changes ++ c ∷ []
    next_is c (all, are_all, at) =
        take_next are.changes i c (ap (λ (l : List of_zone.Change). slice_get l i) (one_list_of_changes zone orderly are.changes all are.are_changes are_all) ∙ at)

    pub more_transitions : (c : of_zone.Change) (now : List Shown) (n : ℕ) → IsChangeAt zone i c → FitsSigned w64 c.instant → IsNumbered states now c.state n
        → AreTransitionsTo zone (i + 1) now (transitions ++ record { instant = c.instant; number = n } ∷ [])
    more_transitions c now n at fits is =
        let done = take i are.changes in
        let its = subst (λ (l : List Shown). IsNumbered l now c.state n) are.are_states is in
        let next = next_is c at in
        let before_it = ap (λ (l : List Shown). map (transition l) done) are.are_states in
        record {
          first = are.first;
          changes = are.changes;
          are_changes = are.are_changes;
          is_first = are.is_first;
          are_states = states_more are.first done c now n its ∙ ap (states_of are.first) (sym next);
          are_transitions =
              ap (λ (l : List Change). l ++ record { instant = c.instant; number = n } ∷ []) (are.are_transitions ∙ before_it)
              ∙ sym (transitions_more are.first done c now n its) ∙ ap (λ (l : List of_zone.Change). map (transition now) l) (sym next);
          fit = All-push (λ (x : Change). FitsSigned w64 x.instant) transitions (record { instant = c.instant; number = n }) are.fit fits;
        }

    pub too_many : (c : of_zone.Change) → IsChangeAt zone i c → MAX_TYPES < length (with_new same_state states c.state) → HasManyTypes zone
    too_many c at many =
        let done = take i are.changes in
        let next = next_is c at in
        let seen = ap (λ (l : List Shown). with_new same_state l c.state) are.are_states ∙ sym (states_push are.first done c) ∙ ap (states_of are.first) (sym next) in
        let whole = ap (λ (l : List of_zone.Change). map state_of l) (sym (take-append-drop (i + 1) are.changes)) ∙ map-append state_of (take (i + 1) are.changes) (drop (i + 1) are.changes) in
        let (more, grown) = firsts_grow same_state (are.first ∷ map state_of (take (i + 1) are.changes)) (map state_of (drop (i + 1) are.changes)) in
        let all = ap (λ (l : List Shown). firsts same_state (are.first ∷ l)) whole ∙ grown in
        record {
          first = are.first;
          changes = are.changes;
          are_changes = are.are_changes;
          is_first = are.is_first;
          many = omega (arith, ap (λ (l : List Shown). length l) seen, ap (λ (l : List Shown). length l) all, length-append (states_of are.first (take (i + 1) are.changes)) more);
        }

    pub all_transitions : (all : List of_zone.Change) → of_zone.AreChanges zone all → length all ≤ i → AreTransitions zone states transitions
    all_transitions all are_all over =
        let same = one_list_of_changes zone orderly are.changes all are.are_changes are_all in
        let whole = take_all i are.changes (omega (arith, ap (λ (l : List of_zone.Change). length l) same)) in
        record {
          first = are.first;
          changes = are.changes;
          are_changes = are.are_changes;
          is_first = are.is_first;
          are_states = are.are_states ∙ ap (states_of are.first) whole;
          are_transitions = are.are_transitions ∙ ap (λ (l : List of_zone.Change). map (transition states) l) whole;
          fit = are.fit;
        }
