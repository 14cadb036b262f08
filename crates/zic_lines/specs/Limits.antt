-- The limits of what a zone shows.
use Rattle.std.specs.Prelude.{◌≡◌, ◌≤◌, ℕ, Bool, true, ◌&&◌, nat_le, List, length, unsigned_abs}
use Rattle.std.specs.List.{list_all}
use Rattle.zic_base.specs.Byte.{is_abbreviation_byte}
use Rattle.zic_base.specs.State.{Shown}
use Rattle.zic_base.specs.declared.constants.TheConstants.{SHORTEST_ABBREVIATION, LONGEST_ABBREVIATION}
use Rattle.zic_lines.specs.declared.time.TheConstants.{GREATEST_OFFSET}

-- An abbreviation has 3 to 16 ASCII letters, digits, `+` and `-`. RFC 9636, 3.2, recommends 3 to 6; up to 16 is an own choice.
abbrev pub is_abbreviation : List ℕ → Bool
is_abbreviation name =
    nat_le SHORTEST_ABBREVIATION (length name) && nat_le (length name) LONGEST_ABBREVIATION && list_all is_abbreviation_byte name

-- The offset is within 24:00:00 either way, and the name is an abbreviation.
pub record IsWithinLimits (state : Shown) : Type 0 where
  pub offset : unsigned_abs state.offset ≤ GREATEST_OFFSET
  pub name : is_abbreviation state.name ≡ true
