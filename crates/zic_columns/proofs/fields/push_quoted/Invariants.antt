use Rattle.std.proofs.Common.{◌≡◌, ◌++◌, ℕ, List, take}
use Rattle.zic_columns.specs.code.Field.{Spells}
use Rattle.zic_columns.proofs.fields.push_quoted.Given as goal

-- the text was appended that the bytes before the index spell
abbrev pub invariant-loop-byte : goal.invariant-loop-byte
invariant-loop-byte l = (text : List ℕ) × (l.text.items ≡ l.fn.text.items ++ text) × Spells l.delimiter.byte (take l.byte-index l.rest) text l.place_now
