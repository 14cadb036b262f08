use Rattle.std.proofs.Common.{◌≡◌, true, take, All}
use Rattle.zic_columns.specs.Column.{ends_line}
use Rattle.zic_columns.proofs.lines.after_line_ends.Given as goal

abbrev pub invariant-loop-index : goal.invariant-loop-index
invariant-loop-index l = All (λ byte. ends_line byte ≡ true) (take l.index l.bytes)
