-- What the names of added fields begin with: own choice.
use Rattle.std.specs.Prelude.{ℕ, Bool, ◌&&◌, nat_le, List, length}
use Rattle.std.specs.List.{list_all}
use Rattle.zic_layouts.specs.Delimiter.{is_row_byte}
use Rattle.zic_layouts.specs.declared.prefix.TheConstants.{MAX_PREFIX}

-- at most 64 bytes, each one that a field of a row can have, so that no prefix has a delimiter, a double quote or a line end
abbrev pub is_prefix : List ℕ → Bool
is_prefix bytes = nat_le (length bytes) MAX_PREFIX && list_all is_row_byte bytes
