-- The usual fields of a row, as they are appended.
use Rattle.std.proofs.Common.{◌≡◌, ℕ, List, [], ◌∷◌, ◌++◌, if◌then◌else◌}
use Rattle.std.specs.Fmt.{signed_decimal}
use Rattle.zic_base.specs.Digits.{offset_text}
use Rattle.zic_base.specs.State.{Shown}
use Rattle.zic_layouts.specs.RowField.{fields_of}
use Rattle.zic_layouts.specs.declared.layout.Style.{Style}
use Rattle.zic_layouts.specs.declared.layout.Style.TheVariants as styles
use Rattle.zic_layouts.specs.declared.layout.TimeFrom.TheVariants as from
use Rattle.zic_layouts.specs.declared.row_field.RowFields.TheVariants as rows
use Rattle.zic_row_text.specs.Count.{timed_rest_text}
use Rattle.zic_row_text.specs.Row.{iso_state_text, state_text}
use Rattle.zic_row_text.specs.declared.row_time.RowTime.{RowTime}
use Rattle.std.proofs.Common.{append-nil, append_assoc}
use Rattle.zic_piece_rows.specs.code.Row.{local_fields, rest_at, time_count}

-- those of an instant
pub usual_rest : (d : ℕ) (style : Style) (time : RowTime) (s : Shown) (place : List ℕ)
    → rest_at d (fields_of (rows.Usual style) from.Count) time s place ≡ timed_rest_text d style time.unit time.second time.fraction s
unfolding timed_rest_text state_text iso_state_text
usual_rest d styles.Fields time s place = simp (append_assoc, append-nil)
usual_rest d styles.Iso time s place = simp (append_assoc, append-nil)

joined : (a b c e z : List ℕ) → (a ++ (b ++ (c ++ (e ++ [])))) ++ z ≡ a ++ (b ++ (c ++ (e ++ z)))
joined a b c e z = simp (append_assoc, append-nil)

-- and of a local time
pub local_rest : (d : ℕ) (time : RowTime) (s : Shown) (place : List ℕ) → rest_at d local_fields time s place ≡ (d ∷ signed_decimal (time_count time)) ++ state_text d s
unfolding state_text
local_rest d time s place = joined (d ∷ signed_decimal (time_count time)) (d ∷ offset_text s.offset) (d ∷ (if s.daylight then 49 else 48) ∷ []) (d ∷ s.name) (10 ∷ [])
