-- Where lines stand.
use Rattle.std.specs.Prelude.{◌≡◌, ◌<◌, ◌⊎◌}
use Rattle.zic_base.specs.declared.fault.Place.{Place}

-- One place stands before the other: in an earlier text, or in an earlier line of the same text.
abbrev pub IsBefore : Place → Place → Type 0
IsBefore place other = (place.text < other.text) ⊎ ((place.text ≡ other.text) × (place.line < other.line))
