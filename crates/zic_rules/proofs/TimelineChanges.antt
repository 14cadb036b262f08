-- States that hold from one change to the next.
use Rattle.std.proofs.Common.{◌≡◌, ◌<◌, ℕ, zero, suc, List, [], ◌∷◌, length, get_or, Option, Some, None, refl, sym, subst, arith}
use Rattle.std.specs.Prelude.{ℤ, pos, ◌-ℤ◌, ◌<ℤ◌, ◌≤ℤ◌, Any, slice_get}
use Rattle.std.proofs.lemmas.Int.{ints, by_lt_z}
use Rattle.std.proofs.lemmas.Option.{same_Some}
use Rattle.std.proofs.lemmas.List.Elements.{Contains-append_right}
use Rattle.zic_base.proofs.Elements.{first_contained}
use Rattle.zic_states.specs.Change.{Change}
use Rattle.zic_base.specs.State.{Shown}
use Rattle.zic_rules.specs.code.Held.{IsFrom, ComesAfter}
use Rattle.zic_rules.specs.code.Shown.{AreSoFrom}

later_after : (start : Option ℤ) (u v : ℤ) → ComesAfter start u → u <ℤ v → ComesAfter start v
later_after None u v after lt = tt
later_after (Some s) u v after lt = omega (arith, ints)

before_after : (start : Option ℤ) (u : ℤ) → ComesAfter start u → IsFrom start (u -ℤ pos 1)
before_after None u after = tt
before_after (Some s) u after = omega (arith, ints)

any_later : (P : Change → Type 0) (c : Change) (cs : List Change) → Any P cs → Any P (c ∷ cs)
any_later P c cs (k, d, within, at, is) =
    let has = Contains-append_right (c ∷ []) cs d (k, within, at) in
    (has.0, d, has.1, has.2, is)

any_first : (P : Change → Type 0) (c : Change) (cs : List Change) → P c → Any P (c ∷ cs)
any_first P c cs is = let has = first_contained c cs in (has.0, c, has.1, has.2, is)

module _ (IsSo : ℤ → Shown → Type 0) (end : ℤ) where
  -- the same state somewhat earlier
  pub so_earlier : (start : Option ℤ) (u : ℤ) (state : Shown) (cs : List Change) → ComesAfter start u
      → ((t : ℤ) → IsFrom start t → t <ℤ u → IsSo t state) → AreSoFrom IsSo end (Some u) state cs → AreSoFrom IsSo end start state cs
  so_earlier start u state [] after so rest = λ t from before. by_lt_z t u (λ lt. so t from lt) (λ ge. rest t ge before)
  so_earlier start u state (c ∷ cs) after so rest = (
    later_after start u c.instant after rest.0,
    rest.1,
    rest.2,
    λ t from before. by_lt_z t u (λ lt. so t from lt) (λ ge. rest.3 t ge before),
    rest.4,
  )

  so_at_start : (u : ℤ) (state : Shown) (cs : List Change) → u <ℤ end → AreSoFrom IsSo end (Some u) state cs → IsSo u state
  so_at_start u state [] before so = so u (omega (arith, ints)) before
  so_at_start u state (c ∷ cs) before so = so.3 u (omega (arith, ints)) so.0

  all_above : (u : ℤ) (state : Shown) (cs : List Change) → AreSoFrom IsSo end (Some u) state cs
      → (k : ℕ) (d : Change) → k < length cs → u <ℤ (get_or cs k d).instant
  all_above u state [] so k d lt = absurd (omega (arith, lt))
  all_above u state (c ∷ cs) so zero d lt = so.0
  all_above u state (c ∷ cs) so (suc k) d lt =
      let above = all_above c.instant c.state cs so.4 k d (omega (arith, lt)) in
      let first = so.0 in
      omega (arith, ints)

  pub so_rising : (start : Option ℤ) (state : Shown) (cs : List Change) → AreSoFrom IsSo end start state cs
      → (i j : ℕ) (d : Change) → i < j → j < length cs → (get_or cs i d).instant <ℤ (get_or cs j d).instant
  so_rising start state [] so i j d lt within = absurd (omega (arith, within))
  so_rising start state (c ∷ cs) so i zero d lt within = absurd (omega (arith, lt))
  so_rising start state (c ∷ cs) so zero (suc j) d lt within = all_above c.instant c.state cs so.4 j d (omega (arith, within))
  so_rising start state (c ∷ cs) so (suc i) (suc j) d lt within =
      so_rising (Some c.instant) c.state cs so.4 i j d (omega (arith, lt)) (omega (arith, within))

  -- at each change another state was so one second earlier
  pub so_each : (P : Change → Type 0)
      → ((c : Change) (earlier : Shown) → c.instant <ℤ end → IsSo c.instant c.state → IsSo (c.instant -ℤ pos 1) earlier → (earlier ≡ c.state → ⊥) → P c)
      → (start : Option ℤ) (state : Shown) (cs : List Change) → AreSoFrom IsSo end start state cs
      → (k : ℕ) (d : Change) → k < length cs → P (get_or cs k d)
  so_each P make start state [] so k d lt = absurd (omega (arith, lt))
  so_each P make start state (c ∷ cs) so zero d lt =
      make c state so.1 (so_at_start c.instant c.state cs so.1 so.4)
      (so.3 (c.instant -ℤ pos 1) (before_after start c.instant so.0) (omega (arith, ints))) so.2
  so_each P make start state (c ∷ cs) so (suc k) d lt = so_each P make (Some c.instant) c.state cs so.4 k d (omega (arith, lt))

  -- where no state is so both at an instant and one second earlier, there is a change
  pub so_all : (t : ℤ) → t <ℤ end → ((state : Shown) → IsSo t state → IsSo (t -ℤ pos 1) state → ⊥)
      → (start : Option ℤ) (state : Shown) (cs : List Change) → IsFrom start (t -ℤ pos 1) → IsFrom start t → AreSoFrom IsSo end start state cs
      → Any (λ c. c.instant ≡ t) cs
  so_all t before changes start state [] from from' so =
      absurd (changes state (so t from' before) (so (t -ℤ pos 1) from (omega (arith, ints))))
  so_all t before changes start state (c ∷ cs) from from' so =
      by_lt_z t c.instant
      (λ lt. absurd (changes state (so.3 t from' lt) (so.3 (t -ℤ pos 1) from (omega (arith, ints)))))
      (λ ge. by_lt_z c.instant t
      (λ gt. any_later (λ x. x.instant ≡ t) c cs
      (so_all t before changes (Some c.instant) c.state cs (omega (arith, ints)) ge so.4))
      (λ le. any_first (λ x. x.instant ≡ t) c cs (omega (arith, ints))))

  -- before the first change
  pub so_first : (t : ℤ) (start : Option ℤ) (state : Shown) (cs : List Change) → IsFrom start t → t <ℤ end
      → ((c : Change) → slice_get cs 0 ≡ Some c → t <ℤ c.instant) → AreSoFrom IsSo end start state cs → IsSo t state
  so_first t start state [] from before first so = so t from before
  so_first t start state (c ∷ cs) from before first so = so.3 t from (first c refl)

  -- from a change to the next
  pub so_nth : (t : ℤ) (start : Option ℤ) (state : Shown) (cs : List Change) (k : ℕ) (c : Change) → slice_get cs k ≡ Some c → c.instant ≤ℤ t
      → t <ℤ end → ((next : Change) → slice_get cs (suc k) ≡ Some next → t <ℤ next.instant) → AreSoFrom IsSo end start state cs → IsSo t c.state
  so_nth t start state [] k c at from before next so = absurd cc
  so_nth t start state (x ∷ cs) zero c at from before next so =
      let same : x ≡ c = same_Some x c at in
      let le : x.instant ≤ℤ t = subst (λ (y : Change). y.instant ≤ℤ t) (sym same) from in
      subst (λ (y : Change). IsSo t y.state) same
      (so_first t (Some x.instant) x.state cs le before (λ d e. next d e) so.4)
  so_nth t start state (x ∷ cs) (suc k) c at from before next so =
      so_nth t (Some x.instant) x.state cs k c at from before next so.4

  -- at each instant some state is so
  pub so_somewhere : (t : ℤ) (start : Option ℤ) (state : Shown) (cs : List Change) → IsFrom start t → t <ℤ end
      → AreSoFrom IsSo end start state cs → (some : Shown) × IsSo t some
  so_somewhere t start state [] from before so = (state, so t from before)
  so_somewhere t start state (c ∷ cs) from before so =
      by_lt_z t c.instant
      (λ lt. (state, so.3 t from lt))
      (λ ge. so_somewhere t (Some c.instant) c.state cs ge before so.4)
