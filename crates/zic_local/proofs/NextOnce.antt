-- One answer is the next.
use Rattle.std.proofs.Common.{◌≡◌, ℤ, Option, Some, None, MatchOption, ap, refl, arith}
use Rattle.std.proofs.lemmas.Int.{ints}
use Rattle.zic_tzif.specs.Content.{Content}
use Rattle.zic_local.specs.Due.{IsNeverDue, IsNext}
use Rattle.zic_local.specs.declared.schedule.Schedule.{Schedule}

module _ (content : Content) (schedule : Schedule) (after until : ℤ) where
  abbrev IsAnswer : Option ℤ → Type 0
  IsAnswer answer = MatchOption answer (IsNeverDue content schedule after until) (IsNext content schedule after until)

  one_next : (t u : ℤ) → IsNext content schedule after until t → IsNext content schedule after until u → t ≡ u
  one_next t u is other =
      let low = is.least u other.due other.later in
      let high = other.least t is.due is.later in
      omega (arith, ints, low, high)

  pub next_once : (a b : Option ℤ) → IsAnswer a → IsAnswer b → a ≡ b
  next_once None None is other = refl
  next_once None (Some u) is other = absurd (is u other.due other.later other.within)
  next_once (Some t) None is other = absurd (other t is.due is.later is.within)
  next_once (Some t) (Some u) is other = ap Some (one_next t u is other)
