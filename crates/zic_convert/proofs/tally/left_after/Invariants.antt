use Rattle.std.proofs.Common.{◌≡◌, ◌+◌, None, length, take}
use Rattle.zic_convert.specs.code.Pieces.{joined}
use Rattle.zic_convert.proofs.tally.left_after.Given as goal

-- none of the first pieces ends the run, and their faults are taken away
abbrev pub invariant-loop-rows : goal.invariant-loop-rows
invariant-loop-rows l = record {
  goes_on : (joined (take l.rows-index l.pieces)).fault ≡ None;
  few : l.most ≡ length (joined (take l.rows-index l.pieces)).faults + l.few;
}
