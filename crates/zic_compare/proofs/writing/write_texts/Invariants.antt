use Rattle.std.proofs.Common.{◌≡◌, take, flat_map}
use Rattle.zic_compare.specs.Text.{with_names}
use Rattle.zic_compare.specs.code.Rounds.{names_after}
use Rattle.zic_counted.specs.Written.{Writes}
use Rattle.zic_compare.proofs.writing.write_texts.Given as goal

-- the lines of the first pieces were written
abbrev pub invariant-loop-text : goal.invariant-loop-text
invariant-loop-text g l =
    (l.left ≡ names_after l.names (flat_map (λ text. text) (take l.text-index l.texts)))
    × Writes g.W.Write.contents l.fn.writer l.writer (with_names l.names (flat_map (λ text. text) (take l.text-index l.texts)))
