-- The usual fields of rows, as they are appended.
use Rattle.std.proofs.Common.{◌≡◌, ◌∙◌, ℕ, ℤ, List, [], ◌∷◌, ◌++◌, append-nil, append_assoc}
use Rattle.zic_base.specs.State.{Shown}
use Rattle.zic_layouts.specs.RowField.{fields_of}
use Rattle.zic_layouts.specs.declared.layout.Style.{Style}
use Rattle.zic_layouts.specs.declared.layout.Style.TheVariants as styles
use Rattle.zic_layouts.specs.declared.layout.TimeFrom.TheVariants as from
use Rattle.zic_layouts.specs.declared.layout.Unit.{Unit}
use Rattle.zic_layouts.specs.declared.row_field.RowFields.TheVariants as rows
use Rattle.zic_row_text.specs.Count.{counted_rest_text, timed_rest_text}
use Rattle.zic_row_text.specs.Fields.{fields_text}
use Rattle.zic_row_text.specs.Row.{iso_state_text, state_text}

-- those of instants
pub usual_fields : (d : ℕ) (style : Style) (u : Unit) (count : ℤ) (s : Shown) (place : List ℕ) → fields_text d (fields_of (rows.Usual style) from.Count) u count s place ≡ counted_rest_text d style u count s
unfolding counted_rest_text timed_rest_text state_text iso_state_text
usual_fields d styles.Fields u count s place = simp (append_assoc, append-nil)
usual_fields d styles.Iso u count s place = simp (append_assoc, append-nil)
