-- The fields that rows have after their beginning: own choice.
use Rattle.std.specs.Prelude.{Bool, true, List, [], ◌∷◌, filter}
use Rattle.zic_layouts.specs.declared.compared.Compared.{Compared}
use Rattle.zic_layouts.specs.declared.layout.Style.TheVariants as styles
use Rattle.zic_layouts.specs.declared.layout.TimeFrom.{TimeFrom}
use Rattle.zic_layouts.specs.declared.layout.TimeFrom.TheVariants as from
use Rattle.zic_layouts.specs.declared.row_field.RowField.{RowField}
use Rattle.zic_layouts.specs.declared.row_field.RowField.TheVariants as field
use Rattle.zic_layouts.specs.declared.row_field.RowFields.{RowFields}
use Rattle.zic_layouts.specs.declared.row_field.RowFields.TheVariants as rows

-- the fields of rows, where the records have times of this form
abbrev pub fields_of : RowFields → TimeFrom → List RowField
fields_of (rows.Only fields) time = fields
fields_of (rows.Usual styles.Fields) from.Count = field.Local ∷ field.Offset ∷ field.Daylight ∷ field.Abbreviation ∷ []
fields_of (rows.Usual styles.Fields) (from.Text form) = field.Local ∷ field.Offset ∷ field.Daylight ∷ field.Abbreviation ∷ []
fields_of (rows.Usual styles.Fields) (from.Local choice) = field.Instant ∷ field.Offset ∷ field.Daylight ∷ field.Abbreviation ∷ []
fields_of (rows.Usual styles.Iso) from.Count = field.Time ∷ field.Daylight ∷ field.Abbreviation ∷ []
fields_of (rows.Usual styles.Iso) (from.Text form) = field.Time ∷ field.Daylight ∷ field.Abbreviation ∷ []
fields_of (rows.Usual styles.Iso) (from.Local choice) = field.Utc ∷ field.Time ∷ field.Daylight ∷ field.Abbreviation ∷ []

-- the field is compared with that of another release: each is, but a daylight flag or an abbreviation that is ignored
abbrev pub is_compared : Compared → RowField → Bool
is_compared compared field.Local = true
is_compared compared field.Time = true
is_compared compared field.Instant = true
is_compared compared field.Utc = true
is_compared compared field.Offset = true
is_compared compared field.Daylight = compared.daylight
is_compared compared field.Abbreviation = compared.abbreviation
is_compared compared field.Ambiguous = true

-- those that are compared
abbrev pub compared_of : Compared → List RowField → List RowField
compared_of compared fields = filter (is_compared compared) fields
