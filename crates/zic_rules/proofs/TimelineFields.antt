-- What a timeline that is kept gives.
use Rattle.std.proofs.Common.{◌-◌, inl, inr, map, true, false, ◌≡◌, ◌<◌, ◌≤◌, ℕ, zero, suc, List, [], ◌∷◌, length, get_or, Some, None, refl, sym, ap, subst, ◌∙◌, arith}
use Rattle.std.specs.Prelude.{ℤ, pos, ◌-ℤ◌, ◌<ℤ◌, ◌≤ℤ◌, slice_get, option_map, AllPairs, int_le}
use Rattle.std.specs.List.Sorted.{IsPartitionedBy, IsPartitionPoint}
use Rattle.std.proofs.lemmas.Bool.{cases_lt}
use Rattle.zic_states.proofs.Filters.{not_after_from_test}
use Rattle.zic_rules.specs.declared.changes.DatedState.{DatedState}
use Rattle.std.proofs.lemmas.Int.{ints, by_lt_z}
use Rattle.std.proofs.lemmas.Option.{same_Some, slice_get-map, slice_get-get_or, slice_get_within, get_or_from_slice_get}
use Rattle.zic_base.proofs.Elements.{got}
use Rattle.zic_states.specs.Change.{Change, IsChange, AreChanges, IsFirstState}
use Rattle.zic_base.specs.State.{Shown}
use Rattle.zic_states.specs.Zone.{Zone, Shows}
use Rattle.zic_states.proofs.Changes.{one_list_of_changes}
use Rattle.zic_states.proofs.Ends.{one_end}
use Rattle.zic_states.proofs.States.{one_state}
use Rattle.zic_rules.specs.Timeline.{IsWholeZone}
use Rattle.zic_rules.specs.code.Shown.{ShowsNamed, IsTimeline, shown_by, dated}
use Rattle.zic_rules.proofs.TimelineChanges.{so_rising, so_each, so_all, so_first, so_nth}

module _ (zone : Zone) (end : ℤ) (first : Shown) (cs : List Change) (in_force : IsTimeline zone end first cs) where
  one : (t : ℤ) (a b : Shown) → Shows zone t a → Shows zone t b → a ≡ b
  one t a b shows shows' = one_state zone in_force.orderly t a b shows shows'

  each : (k : ℕ) (d : Change) → k < length cs → IsChange zone (get_or cs k d).instant × Shows zone (get_or cs k d).instant (get_or cs k d).state
  each = so_each (ShowsNamed zone) end (λ c. IsChange zone c.instant × Shows zone c.instant c.state)
      (λ c earlier before now was differs. (
        record {
          end = end;
          is_end = in_force.is_end;
          before_end = before;
          state = c.state;
          earlier = earlier;
          shows = now.0;
          showed = was.0;
          differs = λ e. differs (sym e);
        },
        now.0,
      ))
      None first cs in_force.so

  pub are_changes : AreChanges zone cs
  are_changes = record {
    rising = so_rising (ShowsNamed zone) end None first cs in_force.so;
    each = each;
    all = λ t is.
        let same = one_end zone in_force.orderly.sets is.end end is.is_end in_force.is_end in
        let before = subst (λ (e : ℤ). t <ℤ e) same is.before_end in
        so_all (ShowsNamed zone) end t before
        (λ state shows showed. is.differs (one t is.state state is.shows shows.0 ∙ one (t -ℤ pos 1) state is.earlier showed.0 is.showed))
        None first cs tt tt in_force.so;
  }

  change_at : (c : Change) → slice_get cs 0 ≡ Some c → IsChange zone c.instant
  change_at c at =
      subst (λ (x : Change). IsChange zone x.instant) (get_or_from_slice_get cs 0 c c at) (each 0 c (slice_get_within cs 0 c at)).0

  pub is_first : IsFirstState zone first
  is_first end' t is_end before none =
      let same = one_end zone in_force.orderly.sets end' end is_end in_force.is_end in
      (so_first (ShowsNamed zone) end t None first cs tt (subst (λ (e : ℤ). t <ℤ e) same before)
      (λ c at. none c.instant (change_at c at)) in_force.so).0

  -- any list of all changes is this one
  pub the_changes : (others : List Change) → AreChanges zone others → others ≡ cs
  the_changes others are = one_list_of_changes zone in_force.orderly others cs are are_changes

  pub shown_before_all : (t : ℤ) → t <ℤ end → ((c : Change) → slice_get cs 0 ≡ Some c → t <ℤ c.instant) → Shows zone t first
  shown_before_all t before none = (so_first (ShowsNamed zone) end t None first cs tt before none in_force.so).0

  pub shown_from : (t : ℤ) → t <ℤ end → (k : ℕ) (c : Change) → slice_get cs k ≡ Some c → c.instant ≤ℤ t
      → ((next : Change) → slice_get cs (suc k) ≡ Some next → t <ℤ next.instant) → Shows zone t c.state
  shown_from t before k c at from next = (so_nth (ShowsNamed zone) end t None first cs k c at from before next in_force.so).0

-- ---- a search by instants

from_dated : (xs : List DatedState) (k : ℕ) (c : Change) → slice_get (map dated xs) k ≡ Some c
    → (x : DatedState) × (slice_get xs k ≡ Some x) × (dated x ≡ c)
from_dated [] k c e = absurd cc
from_dated (x ∷ xs) zero c e = (x, refl, same_Some (dated x) c e)
from_dated (x ∷ xs) (suc k) c e = from_dated xs k c e

into_dated : (xs : List DatedState) (k : ℕ) (x : DatedState) → slice_get xs k ≡ Some x → slice_get (map dated xs) k ≡ Some (dated x)
into_dated xs k x at = slice_get-map dated xs k ∙ ap (option_map dated) at

two_rise : (xs : List DatedState) (i j : ℕ) (x y : DatedState) → AllPairs (λ a b. a.instant <ℤ b.instant) (map dated xs)
    → slice_get xs i ≡ Some x → slice_get xs j ≡ Some y → i < j → x.instant <ℤ y.instant
two_rise xs i j x y rising at_i at_j lt =
    let to_j = into_dated xs j y at_j in
    let both = rising i j (dated x) lt (slice_get_within (map dated xs) j (dated y) to_j) in
    let less : x.instant <ℤ y.instant =
    rw (get_or_from_slice_get (map dated xs) i (dated x) (dated x) (into_dated xs i x at_i), get_or_from_slice_get (map dated xs) j (dated y) (dated x) to_j) at both in
    less

not_after-true : (a t : ℤ) → a ≤ℤ t → int_le a t ≡ true
not_after-true a t h = grind (arith, ints)

later_from_false : (a t : ℤ) → int_le a t ≡ false → t <ℤ a
later_from_false a t e = by_lt_z t a (λ lt. lt) (λ ge. let yes_is = not_after-true a t ge in absurd cc)

pub parted_dated : (xs : List DatedState) (t : ℤ) → AllPairs (λ a b. a.instant <ℤ b.instant) (map dated xs) → IsPartitionedBy (λ x. int_le x.instant t) xs
parted_dated xs t rising i j d le within e = elim (cases_lt i j) [
  | inl lt ↦
      let less = two_rise xs i j (get_or xs i d) (get_or xs j d) rising (slice_get-get_or xs i d (omega (arith, lt, within))) (slice_get-get_or xs j d within) lt in
      let there = not_after_from_test (get_or xs j d).instant t e in
      not_after-true (get_or xs i d).instant t (omega (arith, ints, less, there))
  | inr ge ↦
      let same : j ≡ i = omega (arith, le, ge) in
      subst (λ (k : ℕ). int_le (get_or xs k d).instant t ≡ true) same e
]

module _ (zone : Zone) (end : ℤ) (first : Shown) (xs : List DatedState) (in_force : IsTimeline zone end first (map dated xs)) (t : ℤ) (before : t <ℤ end) (n : ℕ)
    (point : IsPartitionPoint (λ (y : DatedState). int_le y.instant t ≡ true) (λ y. int_le y.instant t ≡ false) xs n) where
  later_at : (k : ℕ) (c : Change) → n ≤ k → slice_get (map dated xs) k ≡ Some c → t <ℤ c.instant
  later_at k c le at =
      let (x, at_x, same) = from_dated xs k c at in
      let fails = point.1 k x le (slice_get_within xs k x at_x) in
      let e = ap (λ (y : DatedState). int_le y.instant t) (get_or_from_slice_get xs k x x at_x) in
      let lt = later_from_false x.instant t (sym e ∙ fails) in
      subst (λ (d : Change). t <ℤ d.instant) same lt

  pub state_first : n ≡ 0 → Shows zone t first
  state_first none = shown_before_all zone end first (map dated xs) in_force t before (λ c at. later_at 0 c (omega (arith, none)) at)

  pub state_nth : (k : ℕ) (x : DatedState) → n ≡ suc k → slice_get xs k ≡ Some x → Shows zone t (shown_by x.state)
  state_nth k x is at =
      let passes = point.0 k x (omega arith) (omega (arith, is)) in
      let e = ap (λ (y : DatedState). int_le y.instant t) (get_or_from_slice_get xs k x x at) in
      let from = not_after_from_test x.instant t (sym e ∙ passes) in
      shown_from zone end first (map dated xs) in_force t before k (dated x) (into_dated xs k x at) from
      (λ next at_next. later_at (suc k) next (omega (arith, is)) at_next)

pub change_at_place : (xs : List DatedState) (k : ℕ) (x : DatedState) (c : Change) → slice_get xs k ≡ Some x → c.instant ≡ x.instant
    → c.state ≡ shown_by x.state → slice_get (map dated xs) k ≡ Some c
change_at_place xs k x c at instant state =
    into_dated xs k x at ∙ ap Some (sym (λ j. record { instant = instant j; state = state j }))

pub as_many : (xs : List DatedState) → length xs ≡ length (map dated xs)
as_many [] = refl
as_many (x ∷ xs) = ap (λ n. suc n) (as_many xs)

pub is_within : (xs : List DatedState) (cs : List Change) (i : ℕ) → cs ≡ map dated xs → i < length cs → i < length xs
is_within xs cs i same lt = let count = as_many xs in let e = ap (λ (ds : List Change). length ds) same in omega (arith, lt, count, e)

-- ---- one second before the end

within_end : (zone : Zone) (end : ℤ) (first : Shown) (cs : List Change) → IsTimeline zone end first cs → (k : ℕ) (c : Change) → slice_get cs k ≡ Some c
    → c.instant <ℤ end
within_end zone end first cs in_force k c at =
    let is = (each zone end first cs in_force k c (slice_get_within cs k c at)).0 in
    let same = one_end zone in_force.orderly.sets is.end end is.is_end in_force.is_end in
    let before = is.before_end in
    let lt : (get_or cs k c).instant <ℤ end = omega (arith, ints) in
    subst (λ (d : Change). d.instant <ℤ end) (get_or_from_slice_get cs k c c at) lt

module _ (zone : Zone) (end : ℤ) (first : Shown) (xs : List DatedState) (in_force : IsTimeline zone end first (map dated xs)) where
  pub after_last : (x : DatedState) → slice_get xs (length xs - 1) ≡ Some x → Shows zone (end -ℤ pos 1) (shown_by x.state)
  after_last x at =
      let k = length xs - 1 in
      let at_dated = into_dated xs k x at in
      let before = within_end zone end first (map dated xs) in_force k (dated x) at_dated in
      shown_from zone end first (map dated xs) in_force (end -ℤ pos 1) (omega (arith, ints)) k (dated x) at_dated (omega (arith, ints))
      (λ next at_next.
      let within = slice_get_within (map dated xs) (suc k) next at_next in
      let some = slice_get_within xs k x at in
      absurd (omega (arith, within, some, as_many xs)))

pub without_changes : (zone : Zone) (end : ℤ) (first : Shown) (xs : List DatedState) → IsTimeline zone end first (map dated xs)
    → slice_get xs (length xs - 1) ≡ None → Shows zone (end -ℤ pos 1) first
without_changes zone end first [] in_force none =
    shown_before_all zone end first [] in_force (end -ℤ pos 1) (omega (arith, ints)) (λ c at. absurd cc)
without_changes zone end first (x ∷ xs) in_force none =
    let some = got (x ∷ xs) (length (x ∷ xs) - 1) (omega arith) in
    let at = some.1 in
    absurd cc

-- the zone of a timeline is whole
pub whole_zone : (zone : Zone) (end : ℤ) (first : Shown) (cs : List Change) → IsTimeline zone end first cs → IsWholeZone zone
whole_zone zone end first cs in_force = record {
  source = in_force.orderly.sets.sound;
  is_zone = in_force.is_zone;
  sound = in_force.sound;
  orderly = in_force.orderly;
  has_end = (end, in_force.is_end);
}
