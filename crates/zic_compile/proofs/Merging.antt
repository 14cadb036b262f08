-- Two lists whose members stand at rising places, merged by place.
use Rattle.std.proofs.Common.{◌≡◌, ℕ, ◌+◌, ◌<◌, inl, inr, List, [], ◌∷◌, ◌++◌, length, get_or, Some, sym, ap, subst, ◌∙◌, arith}
use Rattle.std.specs.Prelude.{All, AllPairs, Contains, slice_get}
use Rattle.std.proofs.lemmas.Bool.{cases_order}
use Rattle.std.proofs.lemmas.List.Elements.{Contains-append_left, Contains-get_or, Contains-push, Contains-push_cases}
use Rattle.std.proofs.lemmas.List.Quantifiers.{all_pairs_push}
use Rattle.std.proofs.lemmas.Option.{same_Some, slice_get-get_or, slice_get_within, get_or_from_slice_get}
use Rattle.zic_base.specs.Place.{IsBefore}
use Rattle.zic_base.specs.declared.fault.Place.{Place}
use Rattle.zic_source.proofs.faults.Order.{before_before}

-- The places of the first i members of one list and of the first j of the other, in order; and each stands before the members that follow.
pub record IsMerged {X Y : Type 0} (at : X → Place) (other_at : Y → Place) (xs : List X) (ys : List Y) (i j : ℕ) (places : List Place) : Type 0 where
  pub rising : AllPairs IsBefore places
  pub has_first : (k : ℕ) (x : X) → k < i → slice_get xs k ≡ Some x → Contains places (at x)
  pub has_other : (k : ℕ) (y : Y) → k < j → slice_get ys k ≡ Some y → Contains places (other_at y)
  pub before_first : (p : Place) (x : X) → Contains places p → slice_get xs i ≡ Some x → IsBefore p (at x)
  pub before_other : (p : Place) (y : Y) → Contains places p → slice_get ys j ≡ Some y → IsBefore p (other_at y)

module _ {X Y : Type 0} (at : X → Place) (other_at : Y → Place) (xs : List X) (ys : List Y) where
  pub none_merged : IsMerged at other_at xs ys 0 0 []
  none_merged = record {
    rising = λ i j d lt within. absurd (omega (arith, within));
    has_first = λ k x lt e. absurd (omega (arith, lt));
    has_other = λ k y lt e. absurd (omega (arith, lt));
    before_first = λ p x has e. absurd (omega (arith, has.1));
    before_other = λ p y has e. absurd (omega (arith, has.1));
  }

  pub turned : (i j : ℕ) (places : List Place) → IsMerged at other_at xs ys i j places → IsMerged other_at at ys xs j i places
  turned i j places m = record {
    rising = m.rising;
    has_first = m.has_other;
    has_other = m.has_first;
    before_first = m.before_other;
    before_other = m.before_first;
  }

  -- all members of both lists
  pub all_first : (i j : ℕ) (places : List Place) → IsMerged at other_at xs ys i j places → i ≡ length xs → All (λ x. Contains places (at x)) xs
  all_first i j places m e k d lt = m.has_first k (get_or xs k d) (omega (arith, lt, e)) (slice_get-get_or xs k d lt)

  module _ (i j : ℕ) (places : List Place) (x : X) (is_rising : AllPairs (λ a b. IsBefore (at a) (at b)) xs) (m : IsMerged at other_at xs ys i j places)
      (is : slice_get xs i ≡ Some x) (next : (y : Y) → slice_get ys j ≡ Some y → IsBefore (at x) (other_at y)) where
    more : List Place
    more = places ++ at x ∷ []

    older : (p : Place) → Contains places p → Contains (places ++ at x ∷ []) p
    older p has = Contains-append_left places (at x ∷ []) p has

    has_first_more : (k : ℕ) (z : X) → k < i + 1 → slice_get xs k ≡ Some z → Contains (places ++ at x ∷ []) (at z)
    has_first_more k z lt e =
        elim (cases_order k i) [
          | inl same ↦ subst (λ (w : X). Contains (places ++ at x ∷ []) (at w)) (same_Some x z (sym is ∙ ap (slice_get xs) (sym same) ∙ e)) (Contains-push places (at x))
          | inr (inl below) ↦ older (at z) (m.has_first k z below e)
          | inr (inr above) ↦ absurd (omega (arith, above, lt))
        ]

    follows : (z : X) → slice_get xs (i + 1) ≡ Some z → IsBefore (at x) (at z)
    follows z e =
        let a : get_or xs i x ≡ x = get_or_from_slice_get xs i x x is in
        let b : get_or xs (i + 1) x ≡ z = get_or_from_slice_get xs (i + 1) z x e in
        let lt : i + 1 < length xs = slice_get_within xs (i + 1) z e in
        subst (λ (w : X). IsBefore (at x) (at w)) b (subst (λ (w : X). IsBefore (at w) (at (get_or xs (i + 1) x))) a (is_rising i (i + 1) x (omega arith) lt))

    before_more : (p q : Place) → (Contains places p → IsBefore p q) → IsBefore (at x) q → Contains (places ++ at x ∷ []) p → IsBefore p q
    before_more p q old new has =
        elim (Contains-push_cases places (at x) p has) [
          | inl earlier ↦ old earlier
          | inr last ↦ subst (λ (r : Place). IsBefore r q) last new
        ]

    -- one member more
    pub one_merged : IsMerged at other_at xs ys (i + 1) j (places ++ at x ∷ [])
    one_merged = record {
      rising = all_pairs_push IsBefore places (at x) m.rising (λ k d lt. m.before_first (get_or places k d) x (Contains-get_or places k d lt) is);
      has_first = has_first_more;
      has_other = λ k y lt e. older (other_at y) (m.has_other k y lt e);
      before_first = λ p z has e. before_more p (at z) (λ old. before_before p (at x) (at z) (m.before_first p x old is) (follows z e)) (follows z e) has;
      before_other = λ p y has e. before_more p (other_at y) (λ old. m.before_other p y old e) (next y e) has;
    }
