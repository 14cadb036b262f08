-- Local time types and their designations, one after another.
use Rattle.std.proofs.Common.{◌≡◌, ℕ, ◌+◌, ◌≤◌, ◌<◌, true, false, List, [], ◌∷◌, ◌++◌, length, map, take, drop, get_or, Some, refl, sym, ap, subst, ◌∙◌, arith}
use Rattle.std.specs.Prelude.{Contains, slice_get}
use Rattle.std.specs.List.{list_any}
use Rattle.std.specs.Str.{bytes_eq}
use Rattle.std.proofs.lemmas.Bool.{or_from}
use Rattle.std.proofs.lemmas.List.{append-nil, length-append, length-map, length-take-le, map-append, get_or-map, take-append-drop}
use Rattle.std.proofs.lemmas.List.Concat.{flat_map-append}
use Rattle.std.proofs.lemmas.List.Folds.{list_any_more}
use Rattle.std.proofs.lemmas.Option.{same_Some, slice_get-get_or, slice_get_within}
use Rattle.std.proofs.lemmas.Slice.Eq.{bytes_eq-Decides}
use Rattle.zic_base.specs.State.{Shown, shown}
use Rattle.zic_base.specs.declared.state.State.{State}
use Rattle.zic_base.proofs.Elements.{contained_passes, contains_got, into_map}
use Rattle.zic_table.specs.ContentOf.{firsts, before, names_of, ended, local_type}
use Rattle.zic_table.specs.code.Firsts.{with_new}
use Rattle.zic_table.specs.code.LocalTypes.{AreLocalTypes, HasManyCharacters, HasNoName, IsPlaceOf}
use Rattle.zic_tzif.specs.declared.content.LocalType.{LocalType}
use Rattle.zic_tzif.specs.declared.content.TheConstants.{MAX_CHARACTERS}
use Rattle.zic_table.proofs.Firsts.{before_append, before_new, any_firsts, firsts_push, firsts_grow, with_new_grows}
use Rattle.zic_base.proofs.Lists.{map_same, any_map, take_next, get_taken, get_mapped}

-- ---- the look-up of a designation

-- one more state without the name
pub none_more : (states : List State) (name : List ℕ) (i : ℕ) (d : State) → i < length states → HasNoName (map shown states) i name
    → bytes_eq (get_or states i d).name.now name ≡ false → HasNoName (map shown states) (i + 1) name
none_more states name i d lt none apart =
    list_any_more (λ s. bytes_eq s.name name) (map shown states) i (shown d) (omega (arith, length-map states shown))
    ∙ or_from _ _ none (ap (λ (s : Shown). bytes_eq s.name name) (get_or-map shown states i d (shown d) lt) ∙ apart)

-- a state with the name
pub place_found : (states : List State) (types : List LocalType) (name : List ℕ) (i : ℕ) (d : State) (e : LocalType) → i < length states → i < length types
    → bytes_eq (get_or states i d).name.now name ≡ true → IsPlaceOf (map shown states) types name (get_or types i e).place
place_found states types name i d e within made same = record {
  number = i;
  state = shown (get_or states i d);
  its_type = get_or types i e;
  is_state = slice_get-get_or (map shown states) i (shown d) (omega (arith, length-map states shown)) ∙ ap (λ (s : Shown). Some s) (get_or-map shown states i d (shown d) within);
  is_type = slice_get-get_or types i e made;
  named = (bytes_eq-Decides (get_or states i d).name.now name).0 same;
  is_place = refl;
}

-- ---- one more type

abbrev name_of : Shown → List ℕ
name_of s = s.name

module _ (done : List Shown) (s : Shown) where
  -- the designations with one more state
  pub names_push : names_of (done ++ s ∷ []) ≡ with_new bytes_eq (names_of done) s.name
  names_push = ap (firsts bytes_eq) (map-append name_of done (s ∷ [])) ∙ firsts_push bytes_eq bytes_eq-Decides (map name_of done) s.name

  -- a state's abbreviation is one of them
  pub known_name : (t : Shown) → Contains done t → list_any (λ n. bytes_eq n t.name) (names_of done) ≡ true
  known_name t has =
      any_firsts bytes_eq bytes_eq-Decides (map name_of done) t.name
      ∙ contained_passes (λ n. bytes_eq n t.name) (map name_of done) t.name (into_map name_of done t has) ((bytes_eq-Decides t.name t.name).1 refl)

  -- later designations don't matter to the types before them
  types_stay : (more : List (List ℕ)) → map (local_type (names_of done ++ more)) done ≡ map (local_type (names_of done)) done
  types_stay more = map_same (local_type (names_of done ++ more)) (local_type (names_of done)) done
      (λ t has. ap (λ (l : List (List ℕ)). record { offset = t.offset; daylight = t.daylight; place = length (ended l) })
      (before_append bytes_eq (names_of done) more t.name (known_name t has)))

  types_push : (place : ℕ) → place ≡ length (ended (before bytes_eq (names_of (done ++ s ∷ [])) s.name))
      → map (local_type (names_of (done ++ s ∷ []))) (done ++ s ∷ [])
      ≡ map (local_type (names_of done)) done ++ record { offset = s.offset; daylight = s.daylight; place = place } ∷ []
  types_push place is =
      let names = names_of (done ++ s ∷ []) in
      let (more, grown) = with_new_grows bytes_eq (names_of done) s.name in
      let earlier = ap (λ (l : List (List ℕ)). map (local_type l) done) (names_push ∙ grown) ∙ types_stay more in
      map-append (local_type names) done (s ∷ [])
      ∙ (λ k. earlier k ++ record { offset = s.offset; daylight = s.daylight; place = sym is k } ∷ [])

  module _ (types : List LocalType) (names : List ℕ) (are : AreLocalTypes done types names) where
    next_types : (place : ℕ) (now : List ℕ) → place ≡ length (ended (before bytes_eq (names_of (done ++ s ∷ [])) s.name))
        → now ≡ ended (names_of (done ++ s ∷ [])) → length now ≤ MAX_CHARACTERS
        → AreLocalTypes (done ++ s ∷ []) (types ++ record { offset = s.offset; daylight = s.daylight; place = place } ∷ []) now
    next_types place now is is_now fit = record {
      are_types = ap (λ (l : List LocalType). l ++ record { offset = s.offset; daylight = s.daylight; place = place } ∷ []) are.are_types ∙ sym (types_push place is);
      are_names = is_now;
      fit = fit;
    }

    -- a designation that is new
    module _ (new : list_any (λ n. bytes_eq n s.name) (names_of done) ≡ false) where
      added : names_of (done ++ s ∷ []) ≡ names_of done ++ s.name ∷ []
      added = names_push ∙ rw new refl

      all_octets : ended (names_of (done ++ s ∷ [])) ≡ names ++ (s.name ++ 0 ∷ [])
      all_octets =
          ap ended added ∙ flat_map-append (λ n. n ++ 0 ∷ []) (names_of done) (s.name ∷ [])
          ∙ (λ k. sym are.are_names k ++ append-nil (s.name ++ 0 ∷ []) k)

      types_new : (place : ℕ) (now : List ℕ) → place ≡ length names → now ≡ names ++ (s.name ++ 0 ∷ []) → length now ≤ MAX_CHARACTERS
          → AreLocalTypes (done ++ s ∷ []) (types ++ record { offset = s.offset; daylight = s.daylight; place = place } ∷ []) now
      types_new place now is is_now fit = next_types place now
          (is ∙ ap (λ (l : List ℕ). length l) are.are_names
          ∙ ap (λ (l : List (List ℕ)). length (ended l)) (sym (before_new bytes_eq (names_of done) s.name new ((bytes_eq-Decides s.name s.name).1 refl)) ∙ ap (λ (l : List (List ℕ)). before bytes_eq l s.name) (sym added)))
          (is_now ∙ sym all_octets) fit

    -- one that a state before it has
    types_known : (t : Shown) (u : LocalType) (j place : ℕ) → slice_get done j ≡ Some t → slice_get types j ≡ Some u → t.name ≡ s.name → u.place ≡ place
        → AreLocalTypes (done ++ s ∷ []) (types ++ record { offset = s.offset; daylight = s.daylight; place = place } ∷ []) names
    types_known t u j place at_t at_u named is =
        let known = ap (λ (n : List ℕ). list_any (λ m. bytes_eq m n) (names_of done)) (sym named) ∙ known_name t (contains_got done j t at_t) in
        let same : names_of (done ++ s ∷ []) ≡ names_of done = names_push ∙ rw known refl in
        let made = same_Some u (local_type (names_of done) t) (sym at_u ∙ ap (λ (l : List LocalType). slice_get l j) are.are_types ∙ get_mapped (local_type (names_of done)) done j t at_t) in
        next_types place names
        (sym is ∙ ap (λ (x : LocalType). x.place) made ∙ (λ k. length (ended (before bytes_eq (sym same k) (named k)))))
        (are.are_names ∙ ap ended (sym same)) are.fit

-- ---- the types of states, up to one more

-- more states have no fewer bytes
octets_grow : (xs ys : List Shown) → length (ended (names_of xs)) ≤ length (ended (names_of (xs ++ ys)))
octets_grow xs ys =
    let (more, grown) = firsts_grow bytes_eq (map name_of xs) (map name_of ys) in
    let all = ap (λ (l : List (List ℕ)). length (ended l)) (ap (firsts bytes_eq) (map-append name_of xs ys) ∙ grown) in
    omega (arith, all, ap (λ (l : List ℕ). length l) (flat_map-append (λ n. n ++ 0 ∷ []) (names_of xs) more), length-append (ended (names_of xs)) (ended more))

module _ (all : List Shown) (k : ℕ) (s : Shown) (at : slice_get all k ≡ Some s) (types : List LocalType) (names : List ℕ) (are : AreLocalTypes (take k all) types names) where
  next : take (k + 1) all ≡ take k all ++ s ∷ []
  next = take_next all k s at

  as_many : length types ≡ k
  as_many =
      let within = slice_get_within all k s at in
      ap (λ (l : List LocalType). length l) are.are_types ∙ length-map (take k all) (local_type (names_of (take k all))) ∙ length-take-le k all (omega arith)

  pub known_step : (place : ℕ) → IsPlaceOf all types s.name place
      → AreLocalTypes (take (k + 1) all) (types ++ record { offset = s.offset; daylight = s.daylight; place = place } ∷ []) names
  known_step place is =
      let made = slice_get_within types is.number is.its_type is.is_type in
      let its = get_taken all k is.number is.state is.is_state (omega (arith, as_many)) in
      rw next (types_known (take k all) s types names are is.state is.its_type is.number place its is.is_type is.named is.is_place)

  module _ (none : HasNoName all (length types) s.name) where
    is_new : list_any (λ n. bytes_eq n s.name) (names_of (take k all)) ≡ false
    is_new =
        any_firsts bytes_eq bytes_eq-Decides (map name_of (take k all)) s.name ∙ any_map (λ n. bytes_eq n s.name) name_of (take k all)
        ∙ subst (λ (n : ℕ). HasNoName all n s.name) as_many none

    pub new_step : (place : ℕ) (now : List ℕ) → place ≡ length names → now ≡ names ++ (s.name ++ 0 ∷ []) → length now ≤ MAX_CHARACTERS
        → AreLocalTypes (take (k + 1) all) (types ++ record { offset = s.offset; daylight = s.daylight; place = place } ∷ []) now
    new_step place now is is_now fit = rw next (types_new (take k all) s types names are is_new place now is is_now fit)

    pub too_many : MAX_CHARACTERS < length names + (length s.name + 1) → HasManyCharacters all
    too_many many =
        let to = octets_grow (take (k + 1) all) (drop (k + 1) all) in
        let whole = ap (λ (l : List Shown). length (ended (names_of l))) (take-append-drop (k + 1) all) in
        let here = ap (λ (l : List Shown). length (ended (names_of l))) next in
        omega (arith, to, whole, here, ap (λ (l : List ℕ). length l) (all_octets (take k all) s types names are is_new), length-append names (s.name ++ 0 ∷ []), length-append s.name (0 ∷ []))
