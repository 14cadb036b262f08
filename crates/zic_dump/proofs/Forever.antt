-- What doesn't change for 400 years after the last transition never changes.
use Rattle.std.proofs.Common.{◌≡◌, ℕ, ℤ, pos, negsuc, ◌+ℤ◌, ◌-ℤ◌, ◌<ℤ◌, ◌≤ℤ◌, ◌⊎◌, inl, inr, List, [], ◌∷◌, ◌++◌, length, Option, Some, None, MatchOption, All, sym, subst, ap, ◌∙◌, arith, w64, FitsSigned}
use Rattle.std.specs.Int.{int_div_euclid, saturate_signed}
use Rattle.std.specs.Option.{unwrap_or}
use Rattle.std.proofs.lemmas.Int.{ints, by_lt_z}
use Rattle.std.proofs.lemmas.List.Elements.{All-nil}
use Rattle.zic_base.specs.State.{Shown}
use Rattle.zic_posix.specs.Footer.{TzString}
use Rattle.zic_posix.specs.Grammar.{IsTzString}
use Rattle.zic_posix.specs.Meaning.{Means}
use Rattle.zic_posix.proofs.Cycles.{means_at_remainder}
use Rattle.zic_posix.proofs.Meanings.{means_some, means_only}
use Rattle.zic_posix.proofs.StringLemmas.{limits_of}
use Rattle.zic_tzif.specs.declared.content.Change.{Change}
use Rattle.zic_tzif.specs.Content.{Content}
use Rattle.zic_tzif.specs.LastTransition.{IsLastTransitionAt}
use Rattle.zic_tzif.specs.Answer.{Answers, Gives, IsBeforeLast, IsTypeAt}
use Rattle.zic_posix.specs.declared.span.TheConstants.{MIN_INSTANT, MAX_INSTANT}
use Rattle.zic_dump.specs.Changes.{ChangesAt, StaysSame}
use Rattle.zic_dump.specs.NearChanges.{IsNextChange, IsPreviousChange}
use Rattle.zic_dump.specs.code.Walk.{IsFirstWithin, IsLastWithin}
use Rattle.zic_dump.proofs.Euclid.{place, by_seconds, same_place}
use Rattle.zic_dump.proofs.Found.{first_is_next, last_is_previous}
use Rattle.zic_dump.proofs.Walks.{same_within}

-- what a string means at an instant it means at each at the same place
moved : (f : TzString) → IsTzString f → (u v : ℤ) (state : Shown) → place u ≡ place v → Means f u state → Means f v state
moved f is u v state same means =
    let at = means_some f is (place u) in
    let e : at.0 ≡ state = means_only f u at.0 state (means_at_remainder f u at.0 at.1) means in
    means_at_remainder f v state (subst (λ (z : ℤ). Means f z state) same (subst (λ (s : Shown). Means f (place u) s) e at.1))

no_change : (earlier later : List Change) (c : Change) → earlier ++ c ∷ later ≡ [] → ⊥
no_change [] later c e = cc
no_change (x ∷ earlier) later c e = cc

module _ (content : Content) (from : ℤ) (past : IsBeforeLast content from → ⊥) where
  -- no transition comes after any later instant
  pub past_later : (t : ℤ) → from ≤ℤ t → IsBeforeLast content t → ⊥
  past_later t later before = let after = before.4 in past (before.0, before.1, before.2, before.3, omega (arith, ints, later, after))

  type_moved : (u v : ℤ) (number : ℕ) → content.changes ≡ [] → IsTypeAt content u number → IsTypeAt content v number
  type_moved u v number none (inl first) = inl (subst (All (λ (c : Change). v <ℤ c.instant)) (sym none) (All-nil (λ (c : Change). v <ℤ c.instant)), first.1)
  type_moved u v number none (inr c) = absurd (no_change c.1.earlier c.1.later c.0 (sym c.1.is ∙ none))

  gives_moved : (u v : ℤ) (state : Shown) → from ≤ℤ u → from ≤ℤ v → place u ≡ place v → Gives content u state → Gives content v state
  gives_moved u v state low high same (inl (inl before, by_type)) = absurd (past_later u low before)
  gives_moved u v state low high same (inl (inr neither, by_type)) = inl (inr neither, (by_type.0, type_moved u v by_type.0 neither.0 by_type.1, by_type.2))
  gives_moved u v state low high same (inr (after, (f, spells, means))) =
      inr (past_later v high, (f, spells, moved f (limits_of content.version content.text f spells) u v state same means))

  -- what is answered at an instant is answered at each at the same place
  pub answers_moved : (u v : ℤ) (answer : Option Shown) → from ≤ℤ u → from ≤ℤ v → place u ≡ place v → Answers content u answer → Answers content v answer
  answers_moved u v (Some state) low high same gives = gives_moved u v state low high same gives
  answers_moved u v None low high same left = record { some = left.some; after = past_later v high; no_footer = left.no_footer }

  change_moved : (u v : ℤ) → from <ℤ u → from <ℤ v → place u ≡ place v → place (u -ℤ pos 1) ≡ place (v -ℤ pos 1) → ChangesAt content u → ChangesAt content v
  change_moved u v low high same same_before change = record {
    before = change.before;
    after = change.after;
    is_before = answers_moved (u -ℤ pos 1) (v -ℤ pos 1) change.before (omega (arith, ints, low)) (omega (arith, ints, high)) same_before change.is_before;
    is_after = answers_moved u v change.after (omega (arith, ints, low)) (omega (arith, ints, high)) same change.is_after;
    differ = change.differ;
  }

  -- 400 years without a change
  pub never : (first last : ℤ) → from ≤ℤ first → last ≡ first +ℤ pos 12_622_780_800 → StaysSame content first last → (change : ℤ) → from <ℤ change
      → ChangesAt content change → ⊥
  never first last later is same change after changes =
      let start = first +ℤ pos 1 in
      let there = start +ℤ place (change -ℤ start) in
      let apart = by_seconds (change -ℤ start) in
      let is_apart = apart.is in
      let periods = int_div_euclid (change -ℤ start) (pos 12_622_780_800) in
      let here = same_place change there periods (omega (arith, ints, is_apart)) in
      let before = same_place (change -ℤ pos 1) (there -ℤ pos 1) periods (omega (arith, ints, is_apart)) in
      let low = apart.low in
      let high = apart.high in
      let above : first <ℤ there = omega (arith, ints, low) in
      same there above (omega (arith, ints, is, high)) (change_moved change there after (omega (arith, ints, later, above)) here before changes)

-- without transitions none comes
pub none_comes : (content : Content) (t : ℤ) → content.changes ≡ [] → IsBeforeLast content t → ⊥
none_comes content t none before =
    let size = ap (λ (changes : List Change). length changes) none in
    let within = before.2 in
    omega (arith, within, size)

-- the instant of the last transition, or any where there is none
pub past_from : (content : Content) (last : Option ℤ) (from : ℤ) → from ≡ unwrap_or last MIN_INSTANT
    → MatchOption last (content.changes ≡ []) (IsLastTransitionAt content) → IsBeforeLast content from → ⊥
past_from content None from is none before = none_comes content from none before
past_from content (Some t) from is law before = law.last (subst (λ (z : ℤ). IsBeforeLast content z) is before)

-- ---- instants that stay in 64 bits

inside : (z : ℤ) → MIN_INSTANT ≤ℤ z → z ≤ℤ MAX_INSTANT → saturate_signed w64 z ≡ z
inside (pos n) low high = omega (arith, ints)
inside (negsuc n) low high = omega (arith, ints)

above : (z : ℤ) → MAX_INSTANT <ℤ z → saturate_signed w64 z ≡ MAX_INSTANT
above (pos n) beyond = omega (arith, ints)
above (negsuc n) beyond = absurd (omega (arith, ints))

below : (z : ℤ) → z <ℤ MIN_INSTANT → saturate_signed w64 z ≡ MIN_INSTANT
below (pos n) beyond = absurd (omega (arith, ints))
below (negsuc n) beyond = omega (arith, ints)

pub later_or_end : (t end : ℤ) → FitsSigned w64 t → end ≡ saturate_signed w64 (t +ℤ pos 12_622_780_800) → (end ≡ MAX_INSTANT) ⊎ (end ≡ t +ℤ pos 12_622_780_800)
later_or_end t end fits is =
    let later = t +ℤ pos 12_622_780_800 in
    by_lt_z MAX_INSTANT later
    (λ beyond. inl (is ∙ above later beyond))
    (λ within. inr (is ∙ inside later (omega (arith, ints, fits)) within))

-- the second before an instant, or the least of all
pub record IsSecondBefore (t last : ℤ) : Type 0 where
  pub reach : (u : ℤ) → u <ℤ t → u ≤ℤ last
  pub back : (u : ℤ) → MIN_INSTANT <ℤ u → u ≤ℤ last → u <ℤ t

pub second_before_or_start : (t last : ℤ) → FitsSigned w64 t → last ≡ saturate_signed w64 (t -ℤ pos 1) → IsSecondBefore t last
second_before_or_start t last fits is =
    let earlier = t -ℤ pos 1 in
    by_lt_z earlier MIN_INSTANT
    (λ beyond. let e = is ∙ below earlier beyond in record {
      reach = λ u before. omega (arith, ints, e, before, beyond);
      back = λ u after within. absurd (omega (arith, ints, e, after, within));
    })
    (λ least. let e = is ∙ inside earlier least (omega (arith, ints, fits)) in record {
      reach = λ u before. omega (arith, ints, e, before);
      back = λ u after within. omega (arith, ints, e, within);
    })

-- 400 years before, where that isn't the least of all
pub years_before : (from low last : ℤ) → FitsSigned w64 last → low ≡ saturate_signed w64 (last -ℤ pos 12_622_780_800) → MIN_INSTANT ≤ℤ from → from <ℤ low
    → last ≡ low +ℤ pos 12_622_780_800
years_before from low last fits is some later =
    let earlier = last -ℤ pos 12_622_780_800 in
    by_lt_z earlier MIN_INSTANT
    (λ beyond. let e = is ∙ below earlier beyond in absurd (omega (arith, ints, e, some, later)))
    (λ least. let e = is ∙ inside earlier least (omega (arith, ints, fits)) in omega (arith, ints, e))

-- ---- the answers of a search that ends after 400 years

module _ (content : Content) (from : ℤ) (past : IsBeforeLast content from → ⊥) where
  pub next_found : (t end : ℤ) (found : Option ℤ) → t ≤ℤ from → (end ≡ MAX_INSTANT) ⊎ (end ≡ from +ℤ pos 12_622_780_800)
      → MatchOption found (StaysSame content t end) (IsFirstWithin content t end) → MatchOption found (StaysSame content t MAX_INSTANT) (IsNextChange content t)
  next_found t end None order (inl is) same = subst (λ (z : ℤ). StaysSame content t z) is same
  next_found t end None order (inr is) same = λ u after before changes.
      by_lt_z end u
      (λ beyond. never content from past from end (omega (arith, ints)) is (same_within content t end from end same order (omega (arith, ints))) u
      (omega (arith, ints, is, beyond)) changes)
      (λ within. same u after within changes)
  next_found t end (Some change) order is found = first_is_next content t end change found

  -- 400 years before t without a change
  module _ (t low last : ℤ) (later : from ≤ℤ low) (is : last ≡ low +ℤ pos 12_622_780_800) (below : from <ℤ t) (same : StaysSame content low last) where
    pub previous_found : (found : Option ℤ) → MatchOption found (StaysSame content MIN_INSTANT from) (IsLastWithin content MIN_INSTANT from)
        → MatchOption found (StaysSame content MIN_INSTANT (t -ℤ pos 1)) (IsPreviousChange content t)
    previous_found None first = λ u after before changes.
        by_lt_z from u
        (λ beyond. never content from past low last later is same u beyond changes)
        (λ within. first u after within changes)
    previous_found (Some change) found =
        last_is_previous content t MIN_INSTANT from change found (omega (arith, ints)) (let within = found.within in omega (arith, ints, within, below))
        (λ other beyond before changes. never content from past low last later is same other beyond changes)

-- ---- a search that goes on to the least instant, or finds a change before that

module _ (content : Content) (t last : ℤ) (before : IsSecondBefore t last) where
  pub previous_change : (low change : ℤ) → MIN_INSTANT ≤ℤ low → IsLastWithin content low last change → IsPreviousChange content t change
  previous_change low change least found =
      last_is_previous content t low last change found least (before.back change (let after = found.after in omega (arith, ints, least, after)) found.within)
      (λ other beyond earlier changes. let within = before.reach other earlier in omega (arith, ints, beyond, within))

  pub previous_to_start : (found : Option ℤ) → MatchOption found (StaysSame content MIN_INSTANT last) (IsLastWithin content MIN_INSTANT last)
      → MatchOption found (StaysSame content MIN_INSTANT (t -ℤ pos 1)) (IsPreviousChange content t)
  previous_to_start None same = λ u after earlier changes. same u after (before.reach u (omega (arith, ints, earlier))) changes
  previous_to_start (Some change) found = previous_change MIN_INSTANT change (omega (arith, ints)) found
