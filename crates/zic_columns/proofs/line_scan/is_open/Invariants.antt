use Rattle.std.proofs.Common.{◌≡◌, drop}
use Rattle.zic_columns.specs.Column.{config_of, state_after}
use Rattle.csv.specs.declared.parser.State.TheVariants as st
use Rattle.zic_columns.specs.code.Machine.{state_at}
use Rattle.zic_columns.proofs.line_scan.is_open.Given as goal

abbrev pub invariant-loop-byte : goal.invariant-loop-byte
invariant-loop-byte l = state_after (config_of l.delimiter.byte) (state_at l.place_now) (drop l.byte-index l.line) ≡ state_after (config_of l.delimiter.byte) st.StartField l.line
