-- Checks in order: where none fails, and which is the first that fails.
use Rattle.std.proofs.Common.{◌≡◌, Bool, true, false, ◌⊎◌, List, [], ◌∷◌, ◌++◌, Some, None, refl, inl, inr}
use Rattle.zic_base.specs.Check.{Check, check, first_failed}

module _ {Reason : Type 0} where
  -- a check passes, and so do those after it, where none fails
  pub passes : (b : Bool) (reason : Reason) (cs : List (Check Reason)) → first_failed (check b reason ∷ cs) ≡ None → (b ≡ true) × (first_failed cs ≡ None)
  passes true reason cs e = (refl, e)
  passes false reason cs e = absurd cc

  -- each check passes
  abbrev pub EachPasses : List (Check Reason) → Type 0
  EachPasses [] = Unit {0}
  EachPasses (c ∷ cs) = (c.passes ≡ true) × EachPasses cs

  -- none fails where each passes, and only there
  pub each_passes : (cs : List (Check Reason)) → first_failed cs ≡ None → EachPasses cs
  each_passes [] e = tt
  each_passes (c ∷ cs) e = let p = passes c.passes c.reason cs e in (p.0, each_passes cs p.1)

  pub none_fails : (cs : List (Check Reason)) → EachPasses cs → first_failed cs ≡ None
  none_fails [] all = refl
  none_fails (c ∷ cs) all = rw all.0 (none_fails cs all.1)

  -- either all pass, or one is the first that fails
  pub first_failed-cases : (cs : List (Check Reason)) → (first_failed cs ≡ None) ⊎ ((reason : Reason) × (first_failed cs ≡ Some reason))
  first_failed-cases cs = elim (first_failed cs) as (λ o. (o ≡ None) ⊎ ((reason : Reason) × (o ≡ Some reason))) [
    | None ↦ inl refl
    | Some reason ↦ inr (reason, refl)
  ]

  -- where the first checks pass, those that follow decide
  pub first_failed-append : (cs ds : List (Check Reason)) → first_failed cs ≡ None → first_failed (cs ++ ds) ≡ first_failed ds
  first_failed-append [] ds e = refl
  first_failed-append (c ∷ cs) ds e =
      let p = passes c.passes c.reason cs e in
      rw p.0 (first_failed-append cs ds p.1)

  -- what fails the first checks fails all
  pub first_failed-stops : (cs ds : List (Check Reason)) (reason : Reason) → first_failed cs ≡ Some reason → first_failed (cs ++ ds) ≡ Some reason
  first_failed-stops [] ds reason e = absurd cc
  first_failed-stops (c ∷ cs) ds reason e = elim c.passes as (λ b. first_failed (check b c.reason ∷ cs) ≡ Some reason → first_failed (check b c.reason ∷ (cs ++ ds)) ≡ Some reason) [
    | true ↦ λ first. first_failed-stops cs ds reason first
    | false ↦ λ first. first
  ] e

  -- where none of all fails, none of the first and none of the others does
  pub first_failed-both : (cs ds : List (Check Reason)) → first_failed (cs ++ ds) ≡ None → (first_failed cs ≡ None) × (first_failed ds ≡ None)
  first_failed-both [] ds e = (refl, e)
  first_failed-both (c ∷ cs) ds e =
      let p = passes c.passes c.reason (cs ++ ds) e in
      let others = first_failed-both cs ds p.1 in
      (rw p.0 others.0, others.1)
