-- The last transition of a file: RFC 9636, 3.3.
use Rattle.std.specs.Prelude.{ℤ}
use Rattle.zic_tzif.specs.Content.{Content}
use Rattle.zic_tzif.specs.Answer.{HasTransitionAt, IsBeforeLast}

-- a transition is at the instant, and none comes after it
pub record IsLastTransitionAt (content : Content) (t : ℤ) : Type 0 where
  pub transition : HasTransitionAt content t
  pub last : IsBeforeLast content t → ⊥
