-- What a content is refused for.
use Rattle.std.specs.Prelude.{◌≡◌, ◌≢◌, []}
use Rattle.zic_tzif.specs.Content.{Content}
use Rattle.zic_files.specs.Fit.{HasStateOutside}
use Rattle.zic_files.specs.declared.image.Unfit.{Unfit}
use Rattle.zic_files.specs.declared.image.Unfit.TheVariants as unfit

-- the footer has no text, or it has one and a state is outside the limits
abbrev pub IsUnfitContent : Content → Unfit → Type 0
IsUnfitContent content unfit.NoFooter = content.text ≡ []
IsUnfitContent content unfit.OutsideLimits = (content.text ≢ []) × HasStateOutside content
IsUnfitContent content _ = ⊥
