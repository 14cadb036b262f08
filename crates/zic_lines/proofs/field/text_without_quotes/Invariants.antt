use Rattle.std.proofs.Common.{◌≡◌, take}
use Rattle.zic_lines.specs.code.Taken.{without_quotes}
use Rattle.zic_lines.proofs.field.text_without_quotes.Given as goal

abbrev pub invariant-loop-byte : goal.invariant-loop-byte
invariant-loop-byte l = l.text.items ≡ without_quotes (take l.byte-index l.field)
