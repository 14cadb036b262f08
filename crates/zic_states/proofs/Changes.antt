-- The changes of a zone and its first state are one.
use Rattle.std.proofs.Common.{◌≡◌, suc, List, [], ◌∷◌, ◌⊎◌, inl, inr, refl, sym, ap, subst, ◌∙◌, ⊎_elim, arith}
use Rattle.std.specs.Prelude.{ℤ, pos, ◌-ℤ◌, ◌<ℤ◌, AllPairs, Contains}
use Rattle.std.specs.Int.{int_min}
use Rattle.std.proofs.lemmas.Int.{ints, clamps}
use Rattle.std.proofs.lemmas.List.Elements.{All-contains, Contains-append_right}
use Rattle.zic_base.proofs.Elements.{cons_cases, first_contained}
use Rattle.zic_states.specs.Change.{Change, IsChange, AreChanges, IsBeforeChanges, IsFirstState}
use Rattle.zic_states.specs.End.{IsEnd}
use Rattle.zic_states.specs.Laws.{IsOrderly, HasBeginning}
use Rattle.zic_base.specs.State.{Shown}
use Rattle.zic_states.specs.Zone.{Zone, Shows}
use Rattle.zic_states.proofs.States.{one_state}

-- ---- lists that rise by a key

module _ {X : Type 0} (key : X → ℤ) where
  above_first : (x : X) (xs : List X) → AllPairs (λ a b. key a <ℤ key b) (x ∷ xs) → (z : X) → Contains xs z → key x <ℤ key z
  above_first x xs rising z (k, lt, at) = subst (λ (y : X). key x <ℤ key y) at (rising 0 (suc k) z (omega arith) (omega arith))

  rest_rises : (x : X) (xs : List X) → AllPairs (λ a b. key a <ℤ key b) (x ∷ xs) → AllPairs (λ a b. key a <ℤ key b) xs
  rest_rises x xs rising = λ i j d lt within. rising (suc i) (suc j) d (omega arith) (omega arith)

  first_or_above : (x : X) (xs : List X) → AllPairs (λ a b. key a <ℤ key b) (x ∷ xs)
      → (z : X) → Contains (x ∷ xs) z → (x ≡ z) ⊎ (key x <ℤ key z)
  first_or_above x xs rising z has = ⊎_elim (λ same. inl same) (λ later. inr (above_first x xs rising z later)) (cons_cases x xs z has)

  one_first : (x y : X) → (x ≡ y) ⊎ (key x <ℤ key y) → (y ≡ x) ⊎ (key y <ℤ key x) → x ≡ y
  one_first x y (inl same) other = same
  one_first x y (inr lt) (inl same) = sym same
  one_first x y (inr lt) (inr gt) = absurd (omega (arith, ints))

  -- what stands after the first of one list stands after that of the other
  into_rest : (x y : X) (xs ys : List X) → AllPairs (λ a b. key a <ℤ key b) (x ∷ xs) → x ≡ y
      → ((z : X) → Contains (x ∷ xs) z → Contains (y ∷ ys) z) → (z : X) → Contains xs z → Contains ys z
  into_rest x y xs ys rising same into z has =
      elim (cons_cases y ys z (into z (Contains-append_right (x ∷ []) xs z has))) [
        | inl first ↦
            let above = above_first x xs rising z has in
            let tied = ap key (same ∙ first) in
            absurd (omega (arith, ints))
        | inr later ↦ later
      ]

  one_rising : (xs ys : List X) → AllPairs (λ a b. key a <ℤ key b) xs → AllPairs (λ a b. key a <ℤ key b) ys
      → ((z : X) → Contains xs z → Contains ys z) → ((z : X) → Contains ys z → Contains xs z) → xs ≡ ys
  one_rising [] [] rising rising' into back = refl
  one_rising [] (y ∷ ys) rising rising' into back = absurd (omega (arith, (back y (first_contained y ys)).1))
  one_rising (x ∷ xs) [] rising rising' into back = absurd (omega (arith, (into x (first_contained x xs)).1))
  one_rising (x ∷ xs) (y ∷ ys) rising rising' into back =
      let not_before = first_or_above x xs rising y (back y (first_contained y ys)) in
      let not_after = first_or_above y ys rising' x (into x (first_contained x xs)) in
      let same = one_first x y not_before not_after in
      let rest_into = into_rest x y xs ys rising same into in
      let rest_back = into_rest y x ys xs rising' (sym same) back in
      let rest = one_rising xs ys (rest_rises x xs rising) (rest_rises y ys rising') rest_into rest_back in
      λ k. same k ∷ rest k

-- ---- changes

-- an instant with what the zone shows from it on
abbrev IsTrue : Zone → Change → Type 0
IsTrue zone change = IsChange zone change.instant × Shows zone change.instant change.state

module _ (zone : Zone) (orderly : IsOrderly zone) where
  has_each : (a b : List Change) → AreChanges zone a → AreChanges zone b → (c : Change) → Contains a c → Contains b c
  has_each a b one other c has =
      let (is, shows) = All-contains (IsTrue zone) a c one.each has in
      let (number, d, within, at, instant) = other.all c.instant is in
      let has_too : Contains b d = (number, within, at) in
      let (is_too, shows_too) = All-contains (IsTrue zone) b d other.each has_too in
      let shows_then = subst (λ (t : ℤ). Shows zone t d.state) instant shows_too in
      let state = one_state zone orderly c.instant d.state c.state shows_then shows in
      let same : d ≡ c = λ k. record { instant = instant k; state = state k } in
      subst (λ (x : Change). Contains b x) same has_too

  pub one_list_of_changes : (a b : List Change) → AreChanges zone a → AreChanges zone b → a ≡ b
  one_list_of_changes a b one other =
      one_rising (λ c. c.instant) a b one.rising other.rising (has_each a b one other) (has_each b a other one)

  pub one_first_state : HasBeginning zone → (a b : Shown) → IsFirstState zone a → IsFirstState zone b → a ≡ b
  one_first_state (end, t, is_end, before, first) a b one other =
      one_state zone orderly t a b (one end t is_end before first) (other end t is_end before first)

-- ---- before the changes

below_each : (t : ℤ) (first c : Change) → t <ℤ first.instant → (first ≡ c) ⊎ (first.instant <ℤ c.instant) → t <ℤ c.instant
below_each t first c below (inl same) = subst (λ (x : Change). t <ℤ x.instant) same below
below_each t first c below (inr above) = omega (arith, ints)

earliest : (changes : List Change) → AllPairs (λ a b. a.instant <ℤ b.instant) changes → (end : ℤ)
    → (t : ℤ) × (t <ℤ end) × ((c : Change) → Contains changes c → t <ℤ c.instant)
earliest [] rising end = (end -ℤ pos 1, omega (arith, ints), λ c none. absurd (omega (arith, none.1)))
earliest (first ∷ later) rising end =
    let t = int_min first.instant end -ℤ pos 1 in
    let below : t <ℤ first.instant = omega (arith, ints, clamps) in
    (t, omega (arith, ints, clamps), λ c has. below_each t first c below (first_or_above (λ d. d.instant) first later rising c has))

is_before_changes : (zone : Zone) (changes : List Change) → AreChanges zone changes
    → (t : ℤ) → ((c : Change) → Contains changes c → t <ℤ c.instant) → IsBeforeChanges zone t
is_before_changes zone changes are t below u change =
    let (number, c, within, at, instant) = are.all u change in
    subst (λ (v : ℤ). t <ℤ v) instant (below c (number, within, at))

-- Where the end and all changes are known, some instant comes before them.
pub has_beginning : (zone : Zone) (end : ℤ) (changes : List Change) → IsEnd zone end → AreChanges zone changes → HasBeginning zone
has_beginning zone end changes is_end are =
    let (t, before, below) = earliest changes are.rising end in
    (end, t, is_end, before, is_before_changes zone changes are t below)
