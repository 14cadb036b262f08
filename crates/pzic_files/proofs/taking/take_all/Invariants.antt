use Rattle.std.proofs.Common.{◌≡◌, ◌*◌, drop, length}
use Rattle.std.specs.List.{sum}
use Rattle.pzic_files.specs.FilesOf.{given_in}
use Rattle.pzic_files.specs.code.Taking.{GoOn}
use Rattle.pzic_files.proofs.taking.take_all.Given as goal

abbrev pub invariant-loop-i : goal.invariant-loop-i
invariant-loop-i l = record {
  left : sum (drop (2 * l.i) l.lengths) ≡ length l.rest;
  count : length l.statuses.items ≡ l.i;
  taken : GoOn (given_in l.lengths l.texts) (given_in (drop (2 * l.i) l.lengths) l.rest) l.statuses.items l.files;
}
