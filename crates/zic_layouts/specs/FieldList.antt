-- A list of fields of rows: own choice.
use Rattle.std.specs.Prelude.{Bool, ◌&&◌, nat_le, List, length}
use Rattle.zic_layouts.specs.declared.row_field.RowField.{RowField}
use Rattle.zic_layouts.specs.declared.field_list.TheConstants.{MAX_FIELDS}

-- 1 to 8 fields
abbrev pub is_field_list : List RowField → Bool
is_field_list fields = nat_le 1 (length fields) && nat_le (length fields) MAX_FIELDS
