-- What is known of some instants.
use Rattle.std.specs.Prelude.{ℕ, ℤ, List}
use Rattle.zic_posix.specs.Instants.{Includes}
use Rattle.zic_zones.specs.Slots.{Says}
use Rattle.zic_zones.specs.declared.table.NumberSpan.{NumberSpan}
use Rattle.zic_tzif.specs.Content.{Content}

-- The number is right at each of the instants, or unknown.
pub record IsKnown (content : Content) (numbers : List ℕ) (known : NumberSpan) : Type 0 where
  pub says : (t : ℤ) → Includes known.instants t → Says content numbers t known.number
