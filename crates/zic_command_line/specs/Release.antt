-- The names of releases of the tz database, such as 2025b: what they may have is own choice.
use Rattle.std.specs.Prelude.{ℕ, Bool, ◌&&◌, nat_le, List, length}
use Rattle.std.specs.Char.{is_ascii_graphic}
use Rattle.std.specs.List.{list_all}
use Rattle.zic_command_line.specs.declared.release.TheConstants.{LONGEST_RELEASE}

-- some visible ASCII characters, and no more than the greatest number
abbrev pub is_release : List ℕ → Bool
is_release name = nat_le 1 (length name) && nat_le (length name) LONGEST_RELEASE && list_all is_ascii_graphic name
