-- Whether local time stays near UT.
use Rattle.zic_tzif.specs.Content.{Content}
use Rattle.zic_local.specs.LocalTime.{HaveOffsets}

-- each UT offset is within 25:59:59, as in each file
pub record IsNear (content : Content) : Type 0 where
  pub offsets : HaveOffsets content
