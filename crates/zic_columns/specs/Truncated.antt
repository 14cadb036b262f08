-- Bytes whose lines are truncated: own choice. Of each line its first bytes stay, up to this number, and its line end. A law says so by the
-- lines.
use Rattle.std.specs.Prelude.{ℕ, ◌-◌, ◌==◌, List, [], ◌∷◌, Option, Some, None, option_map, if◌then◌else◌}
use Rattle.zic_columns.specs.Column.{ends_line}

-- bytes whose lines are truncated to `most` bytes, the first of them to `room`
abbrev pub truncated_from : ℕ → ℕ → List ℕ → List ℕ
truncated_from most room [] = []
truncated_from most room (byte ∷ bytes) =
    if ends_line byte then byte ∷ truncated_from most most bytes
    else if room == 0 then truncated_from most room bytes
    else byte ∷ truncated_from most (room - 1) bytes

-- bytes whose lines are truncated to this number of bytes, where there is such a number
abbrev pub truncated : Option ℕ → List ℕ → List ℕ
truncated None bytes = bytes
truncated (Some most) bytes = truncated_from most most bytes

-- the same of bytes that are known, the first line of which is truncated to `room` bytes
abbrev pub truncated_known : Option ℕ → ℕ → Option (List ℕ) → Option (List ℕ)
truncated_known None room known = known
truncated_known (Some most) room known = option_map (truncated_from most room) known
