-- Answers of a zone that are cached.
use Rattle.std.specs.Prelude.{ℤ}
use Rattle.zic_tzif.specs.Content.{Content}
use Rattle.zic_posix.specs.Instants.{Includes}
use Rattle.pzic_zones.specs.Column.{IsOffsetAt, AreFlagsAt}
use Rattle.pzic_zones.specs.declared.column.Cached.{Cached}

-- it has what the file answers at an instant
pub record IsCachedAt (content : Content) (t : ℤ) (cached : Cached) : Type 0 where
  pub offset : IsOffsetAt content t cached.offset
  pub flags : AreFlagsAt content t cached.flags

-- it has what the file answers at each of its instants
abbrev pub IsCached : Content → Cached → Type 0
IsCached content cached = (t : ℤ) → Includes cached.instants t → IsCachedAt content t cached
