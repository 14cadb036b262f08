-- The instant that a choice means.
use Rattle.std.proofs.Common.{inl, inr, ℤ, List, [], ◌∷◌, ◌++◌, sym, arith}
use Rattle.std.proofs.lemmas.List.Elements.{Contains-push, Contains-push_cases}
use Rattle.zic_tzif.specs.Content.{Content}
use Rattle.zic_layouts.specs.declared.disambiguation.Disambiguation.{Disambiguation}
use Rattle.zic_layouts.specs.declared.disambiguation.Disambiguation.TheVariants as choice
use Rattle.zic_local.specs.LocalTime.{IsInstantOf, AreInstantsOf}
use Rattle.zic_local.specs.Choice.{IsOnly, IsFirst, IsLast, Means}
use Rattle.zic_local.proofs.Lists.{head_is, least, last_is, greatest}

module _ (content : Content) (local : ℤ) where
  pub only_of : (t : ℤ) → AreInstantsOf content local (t ∷ []) → IsOnly content local t
  only_of t are = record {
    is = (are.just t).0 (Contains-push [] t);
    only = λ other is. elim (Contains-push_cases [] t other ((are.just other).1 is)) [
      | inl none ↦ absurd (let within = none.1 in omega (arith, within))
      | inr same ↦ sym same
    ];
  }

  pub first_of : (first : ℤ) (later : List ℤ) → AreInstantsOf content local (first ∷ later) → IsFirst content local first
  first_of first later are = record {
    is = head_is (IsInstantOf content local) first later are;
    first = least (IsInstantOf content local) first later are;
  }

  pub last_of : (earlier : List ℤ) (last : ℤ) → AreInstantsOf content local (earlier ++ last ∷ []) → IsLast content local last
  last_of earlier last are = record {
    is = last_is (IsInstantOf content local) earlier last are;
    last = greatest (IsInstantOf content local) earlier last are;
  }

  -- where there is one instant, each choice means it
  pub means_only : (disambiguation : Disambiguation) (t : ℤ) → AreInstantsOf content local (t ∷ []) → Means content local disambiguation t
  means_only choice.Reject t are = only_of t are
  means_only choice.Earlier t are = inl (first_of t [] are)
  means_only choice.Later t are = inl (last_of [] t are)
  means_only choice.Compatible t are = inl (first_of t [] are)
