-- The names of the fields that follow what rows begin with.
use Rattle.std.proofs.Common.{◌≡◌, ℕ, List, [], ◌∷◌, map, refl}
use Rattle.zic_layouts.specs.declared.layout.RowStart.{RowStart}
use Rattle.zic_layouts.specs.declared.layout.RowStart.TheVariants as starts
use Rattle.zic_layouts.specs.declared.row_field.RowField.{RowField}
use Rattle.zic_piece_rows.specs.LayoutRows.{following}

-- they follow the name of the first
pub following_names : (start : RowStart) (name : RowField → List ℕ) (fields : List RowField) → following start (map name fields) ≡ map name (following start fields)
following_names starts.Fields name fields = refl
following_names starts.Record name fields = refl
following_names starts.Replaced name [] = refl
following_names starts.Replaced name (f ∷ fields) = refl
