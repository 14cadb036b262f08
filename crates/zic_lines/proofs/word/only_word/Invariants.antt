use Rattle.std.proofs.Common.{◌≡◌, ◌<◌, length}
use Rattle.std.specs.Prelude.{IfSome}
use Rattle.zic_lines.specs.Word.{only_word}
use Rattle.zic_lines.proofs.OnlyWords.{only_with, left, read}
use Rattle.zic_lines.proofs.word.only_word.Given as goal

abbrev pub invariant-loop-place : goal.invariant-loop-place
invariant-loop-place l = record {
  value : only_with l.found (left l.letter l.rest (read l.words) l.place) ≡ only_word (read l.words) l.field;
  within : IfSome l.found (λ place. place < length l.words);
}
