use Rattle.std.proofs.Common.{◌≡◌, nat_eq, drop}
use Rattle.std.specs.List.{starts_with}
use Rattle.std.specs.Str.{str_to_ascii_lowercase}
use Rattle.zic_lines.proofs.word.begins.Given as goal

abbrev pub invariant-loop-index : goal.invariant-loop-index
invariant-loop-index l = starts_with nat_eq (drop l.index l.text) (str_to_ascii_lowercase (drop l.index l.front)) ≡ starts_with nat_eq l.text (str_to_ascii_lowercase l.front)
