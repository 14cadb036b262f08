use Rattle.std.proofs.Common.{◌≡◌, ℕ, List, take}
use Rattle.csv.specs.declared.parser.State.TheVariants as st
use Rattle.zic_columns.specs.Column.{config_of, state_after}
use Rattle.zic_columns.specs.Quotes.{goes_past}
use Rattle.zic_columns.specs.code.Field.{Spells}
use Rattle.zic_columns.specs.code.Machine.{state_at}
use Rattle.zic_columns.proofs.machine.field_len.Given as goal

-- the bytes before the index spell a text, and `stray` says whether one of them is past a double quote that ends it
abbrev pub invariant-loop-index : goal.invariant-loop-index
invariant-loop-index l = (text : List ℕ) × Spells l.delimiter.byte (take l.index l.bytes) text l.place_now × (state_after (config_of l.delimiter.byte) st.StartField (take l.index l.bytes) ≡ state_at l.place_now)
    × (l.stray ≡ goes_past l.delimiter.byte st.StartField (take l.index l.bytes))
