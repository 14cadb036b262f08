-- Changes that are found span by span.
use Rattle.std.specs.Prelude.{ℤ, pos, ◌-ℤ◌, ◌<ℤ◌, ◌≤ℤ◌}
use Rattle.zic_tzif.specs.Content.{Content}
use Rattle.zic_dump.specs.Changes.{ChangesAt, StaysSame}

-- the first change after one instant, and not after another
pub record IsFirstWithin (content : Content) (first last change : ℤ) : Type 0 where
  pub after : first <ℤ change
  pub within : change ≤ℤ last
  pub changes : ChangesAt content change
  pub none_before : StaysSame content first (change -ℤ pos 1)

-- the last of them
pub record IsLastWithin (content : Content) (first last change : ℤ) : Type 0 where
  pub after : first <ℤ change
  pub within : change ≤ℤ last
  pub changes : ChangesAt content change
  pub none_after : StaysSame content change last
